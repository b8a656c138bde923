-- What a call's name means by the headings is what the rule says. Assumes nothing.
use Rattle.std.specs.Prelude.{◌≡◌, Bool, List, [], ◌∷◌, ◌++◌, map, ℕ, zero, suc, ◌+◌, ◌-◌, ◌<◌, ◌≤◌, ltb, length, get_or, replicate}
use Rattle.std.proofs.Math.Path.{refl, subst}
use Rattle.std.proofs.Common.{sym, ap, ltb→lt, lt-ltb, le-ltb}
use Rattle.std.proofs.Math.Bool.{true, false}
use Rattle.std.proofs.Math.Logic.{⊎_elim}
use native.Mathlib.Omega.{arith}
use Rattle.std.proofs.Math.Dec.{leb-suc-suc}
use Rattle.std.proofs.Math.ListN.{length-replicate, length-map}
use Rattle.rules.specs.Text.{pick, index_of}
use Rattle.rules.specs.Outcome.{ok, ◌>>=◌, at, need, need_at, nth}
use Rattle.rules.specs.Primitives.{primitive, inputs_of, primitive_names}
use Rattle.rules.specs.Syntax.{Name, Decl, Block, Spelled}
use Rattle.rules.specs.Names.{Role, a-wire, role_of}
use Rattle.rules.specs.Resolve.{Wants, wanted_by, wanted_by_gate, called}
use Rattle.rules.proofs.Laws.Outcomes.{ok-inj, inv, at_ok}
use Rattle.rules.proofs.Laws.Scoped.{pick-or}
use Rattle.tape.specs.Resolved.{callee_number}
use Rattle.sweep.specs.declared.Heading.{Heading}
use Rattle.sweep.specs.Spelling.{place_of, letters_of}
use Rattle.sweep.specs.Sweep.{callee_in, heading_at, heading_of, after}
use Rattle.sweep.proofs.Laws.Arguments.{Wanted}

-- a heading with these counts, whose ports begin at v
abbrev pub counted : ℕ → ℕ → ℕ → ℕ → Heading
counted g i o v = record { generics = g; inputs = i; outputs = o; want = v }

abbrev pub roles : {N : Type 0} → List (Decl N) → List Role
roles ds = map (λ d. role_of d.sort) ds

-- the headings at v are those of a block
pub record Heads (H : List ℕ) (at : ℕ) (B : Block Name Name) : Type 0 where
  pub want : ℕ
  pub counts : heading_at H at ≡ counted (length B.generics) (length B.inputs) (length B.outputs) want
  pub ports : Wanted H want (roles B.inputs ++ roles B.outputs)

-- the headings H, which begin at F, and the names N are those of the blocks Bs
pub record Knows (s H F N : List ℕ) (Bs : Spelled) : Type 0 where
  pub names : map (letters_of s) N ≡ map (λ B. B.name.letters) Bs
  pub heads : (b : ℕ) {B : Block Name Name} → nth 7 Bs b ≡ ok B → Heads H (get_or F b 0) B
  pub gates : Wanted H 0 (a-wire ∷ a-wire ∷ a-wire ∷ a-wire ∷ [])

pub nth-need : {A C : Type 0} (q : ℕ) (xs : List A) (b : ℕ) (g : A → C) (h : C → ℕ) (c : ℕ) → ((x : A) → h (g x) ≡ c)
    → (need_at q (ltb b (length xs)) 7 >>= λ _. ok c) ≡ after (at q (nth 7 xs b >>= λ x. ok (g x))) h
unfolding nth at need ◌>>=◌ after
nth-need q [] b g h c e = rw (le-ltb b 0 (omega arith))
nth-need q (x ∷ xs) zero g h c e = rw (lt-ltb 0 (suc (length xs)) (omega arith)) (ap ok (sym (e x)))
nth-need q (x ∷ xs) (suc b) g h c e = rw (leb-suc-suc (suc b) (length xs)) (nth-need q xs b g h c e)

module _ (s H F N : List ℕ) (Bs : Spelled) (knows : Knows s H F N Bs) (n : Name) (w : ℕ) (i : letters_of s w ≡ n.letters) (q : place_of w ≡ n.place) where
  pub callee-as : callee_in s N w ≡ after (called Bs n) (λ W. callee_number W.callee)
  unfolding callee_in called after callee_number pick ◌>>=◌ at
  callee-as = rw (i, q, knows.names, length-map Bs (λ B. B.name.letters)) (go (ltb (index_of n.letters primitive_names) 10))
    where
      go : (c : Bool) → pick c (ok (index_of n.letters primitive_names)) (need_at n.place (ltb (index_of n.letters (map (λ B. B.name.letters) Bs)) (length Bs)) 7 >>= λ _. ok (10 + index_of n.letters (map (λ B. B.name.letters) Bs)))
          ≡ after (pick c (ok (wanted_by_gate (index_of n.letters primitive_names))) (at n.place (nth 7 Bs (index_of n.letters (map (λ B. B.name.letters) Bs)) >>= λ B. ok (wanted_by B (index_of n.letters (map (λ B. B.name.letters) Bs)))))) (λ W. callee_number W.callee)
      go true = refl
      go false = nth-need n.place Bs (index_of n.letters (map (λ B. B.name.letters) Bs)) (λ B. wanted_by B (index_of n.letters (map (λ B. B.name.letters) Bs))) (λ W. callee_number W.callee) _ (λ B. refl)

few-inputs : (k : ℕ) → inputs_of k ≤ 3
unfolding primitive
few-inputs zero = omega arith
few-inputs (suc zero) = omega arith
few-inputs (suc (suc zero)) = omega arith
few-inputs (suc (suc (suc zero))) = omega arith
few-inputs (suc (suc (suc (suc zero)))) = omega arith
few-inputs (suc (suc (suc (suc (suc zero))))) = omega arith
few-inputs (suc (suc (suc (suc (suc (suc zero)))))) = omega arith
few-inputs (suc (suc (suc (suc (suc (suc (suc zero))))))) = omega arith
few-inputs (suc (suc (suc (suc (suc (suc (suc (suc zero)))))))) = omega arith
few-inputs (suc (suc (suc (suc (suc (suc (suc (suc (suc zero))))))))) = omega arith
few-inputs (suc (suc (suc (suc (suc (suc (suc (suc (suc (suc k)))))))))) = omega arith

gate-wanted : (H : List ℕ) (m : ℕ) → m ≤ 3 → Wanted H 0 (a-wire ∷ a-wire ∷ a-wire ∷ a-wire ∷ []) → Wanted H 0 (replicate m a-wire ++ (a-wire ∷ []))
unfolding Wanted
gate-wanted H zero l t = (t.0, t.1, tt)
gate-wanted H (suc zero) l t = (t.0, t.1, (t.2.0, t.2.1, tt))
gate-wanted H (suc (suc zero)) l t = (t.0, t.1, (t.2.0, t.2.1, (t.2.2.0, t.2.2.1, tt)))
gate-wanted H (suc (suc (suc zero))) l t = t
gate-wanted H (suc (suc (suc (suc m)))) l t = absurd (omega arith)

-- what is wanted, as the headings have it
pub record Right (H F : List ℕ) (W : Wants) : Type 0 where
  pub want : ℕ
  pub counts : heading_of H F (callee_number W.callee) ≡ counted W.generics (length W.inputs) (length W.outputs) want
  pub ports : Wanted H want (W.inputs ++ W.outputs)

module _ (s H F N : List ℕ) (Bs : Spelled) (knows : Knows s H F N Bs) (n : Name) where
  gate-right : (k : ℕ) → k < 10 → Right H F (wanted_by_gate k)
  unfolding heading_of pick callee_number
  gate-right k l = record {
    want = 0;
    counts = rw (lt-ltb k 10 l, length-replicate (inputs_of k) a-wire) refl;
    ports = gate-wanted H (inputs_of k) (few-inputs k) knows.gates;
  }

  block-right : (b : ℕ) {B : Block Name Name} → nth 7 Bs b ≡ ok B → Right H F (wanted_by B b)
  unfolding heading_of pick callee_number
  block-right b {B} e =
      let h = knows.heads b e in
      let z : 10 + b - 10 ≡ b = omega arith in
      record {
        want = h.want;
        counts = rw (le-ltb (10 + b) 10 (omega arith), z, length-map B.inputs (λ d. role_of d.sort), length-map B.outputs (λ d. role_of d.sort)) h.counts;
        ports = h.ports;
      }

  pub wants-right : {W : Wants} → called Bs n ≡ ok W → Right H F W
  unfolding called
  wants-right e = ⊎_elim
      (λ x. subst (λ W. Right H F W) (ok-inj x.1) (gate-right _ (ltb→lt _ _ x.0)))
      (λ x. inv _ _ (at_ok n.place _ x) λ B e_b e₁. subst (λ W. Right H F W) (ok-inj e₁) (block-right _ e_b))
      (pick-or _ e)
