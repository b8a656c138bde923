-- What stands at the front of a buffer after a piece, or a netlist, was written there. Assumes nothing.
use Rattle.std.specs.Prelude.{◌≡◌, refl, List, ◌++◌, ℕ, ◌+◌, ◌-◌, ◌≤◌, ◌<◌, length, take, drop}
use Rattle.std.proofs.Common.{sym, ap, subst, ◌∙◌, arith, length-append, take_at}
use Rattle.std.proofs.lemmas.List.Edits.{sets-eq}
use Rattle.io.specs.Counts.{IsPrefixLen}
use Rattle.rules.specs.Text.{joined}
use Rattle.rules.specs.Netlist.{WellFormed}
use Rattle.rules.specs.Flat.{flat_text}
use Rattle.clear.specs.Zeros.{zeros}
use Rattle.netlist.specs.Answers.{Told, done, refused}
use Rattle.write.specs.Wrote.{Wrote, short-text, bad-netlist, wrote}
use Rattle.write.specs.Put.{Put}
use Rattle.pebble.specs.Printed.{refused_text, Shows, flat, spoiled, Says}
use Rattle.pebble.specs.Printed.{refused as no_text}

-- r bytes at the front of u, and they are p
pub record Front (r : ℕ) (u p : List ℕ) : Type 0 where
  pub counts : IsPrefixLen r u
  pub is : take r u ≡ p

front_of : (p q : List ℕ) {u : List ℕ} {r : ℕ} → r ≡ length p → u ≡ p ++ q → Front r u p
front_of p q {u} {r} n e =
    let g : take r u ≡ p = ap (λ (l : List ℕ). take r l) e ∙ take_at p q r (sym n) in
    record { counts = (omega (arith, ap length e, length-append p q), n ∙ ap length (sym g)); is = g }

pub front : {t u p : List ℕ} {r : ℕ} → Put t 0 p r u → r ≤ length t → Front r u p
front {t} {u} {p} {r} a h =
    let n : r ≡ length p = omega (arith, a.next) in
    let f : 0 + length p ≤ length t = omega arith in
    front_of p (drop (0 + length p) t) n (a.text ∙ sets-eq p t 0 f)

-- ---- `show` by what stands at the front

said : {number place : ℕ} {net u p : List ℕ} {r : ℕ} → Front r u p → Shows number place net p → Says number place net r u
said {number} {place} {net} f s = record { counts = f.counts; shows = subst (λ (l : List ℕ). Shows number place net l) (sym f.is) s }

pub says-refusal : {number place : ℕ} {net u : List ℕ} {r : ℕ} → 0 < number → Front r u (refused_text number place) → Says number place net r u
says-refusal h f = said f (no_text (λ e. omega arith))

pub says-ill_formed : {number place : ℕ} {net u : List ℕ} {r : ℕ} → number ≡ 0 → (WellFormed net → ⊥) → Front r u (refused_text 19 0) → Says number place net r u
says-ill_formed e h f = said f (spoiled e h)

-- a writer that had room and was refused was handed no netlist, and its number is 19
pub says-spoiled : {number place len k : ℕ} {net t u : List ℕ} {r : ℕ} {w : Told}
    → number ≡ 0 → Wrote net len w t → 65536 ≤ len → w ≡ refused k → 0 < k → Front r u (refused_text k 0) → Says number place net r u
says-spoiled e (short-text h) l d s f = absurd (omega arith)
says-spoiled {u} {r} e (bad-netlist h x) l d s f =
    says-ill_formed e x (subst (λ (k : ℕ). Front r u (refused_text k 0)) (sym (ap (λ (t : Told). t.number) d)) f)
says-spoiled e (wrote h x) l d s f = let z : ◌≡◌ {A = ℕ} 0 _ = ap (λ (t : Told). t.number) d in absurd (omega arith)

pub says-flat : {number place len : ℕ} {net u : List ℕ} {r : ℕ} {t : Told} → number ≡ 0 → Wrote net len t u → 65536 ≤ len → t ≡ done r → Says number place net r u
says-flat e (short-text h) l d = absurd (omega arith)
says-flat e (bad-netlist h x) l d = let z : ◌≡◌ {A = ℕ} 19 0 = ap (λ (t : Told). t.number) d in absurd (omega arith)
says-flat {len} {net} {r} e (wrote h x) l d =
    let n : r ≡ length (flat_text net) = sym (ap (λ (t : Told). t.length) d) in
    said (front_of (flat_text net) (zeros (len - length (flat_text net))) n refl) (flat e x)

-- a flat text is not empty
flat-some : (net : List ℕ) → length (flat_text net) ≡ 0 → ⊥
unfolding flat_text joined
flat-some net e = omega arith

-- a writer that had room and wrote nothing was handed no netlist
pub unwritten : {len : ℕ} {net u : List ℕ} {t : Told} → Wrote net len t u → 65536 ≤ len → t.length ≡ 0 → WellFormed net → ⊥
unwritten (short-text h) l e w = omega arith
unwritten (bad-netlist h x) l e w = x w
unwritten {net} (wrote h x) l e w = flat-some net e
