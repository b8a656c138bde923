-- What a reader leaves on the tape, and its laws. Assumes nothing.
use Rattle.std.specs.Prelude.{◌≡◌, refl, List, [], ◌∷◌, ◌++◌, ℕ, suc, ◌+◌, ◌-◌, ◌<◌, ◌≤◌, length, set, take, drop}
use Rattle.std.proofs.Common.{sym, ap, ◌∙◌, append_assoc, add-zero, add-one, arith, length-append, length-set, take-append-drop, take-suc-set, drop-set-lt}
use Rattle.std.proofs.lemmas.List.{set_comm}
use Rattle.rules.specs.Outcome.{Out, ok, refuse}
use Rattle.std.specs.Prelude.{Result, Ok, Err}
use Rattle.rules.specs.Reasons.{number}
use Rattle.rules.specs.declared.Refusal.{Refusal}
use Rattle.tape.specs.declared.Read.{Read}

-- the words ws, stored one after another from `to` on
unfoldable pub put : List ℕ → ℕ → List ℕ → List ℕ
put t to [] = t
put t to (w ∷ ws) = put (set t to w) (to + 1) ws

-- the words ws were written: from t and `to` to u and `m`
pub record Wrote (t : List ℕ) (to : ℕ) (ws u : List ℕ) (m : ℕ) : Type 0 where
  pub end : m ≡ to + length ws
  pub tape : u ≡ put t to ws

-- a value was read up to n, and its words were written; c is its size
pub record Got {A : Type 0} (size : A → ℕ) (words : A → List ℕ) (o : Out (A × ℕ)) (t : List ℕ) (to : ℕ) (u : List ℕ) (n m c : ℕ) : Type 0 where
  pub value : A
  pub reads : o ≡ ok (value, n)
  pub wrote : Wrote t to (words value) u m
  pub counts : c ≡ size value

-- what a reader answers and leaves on the tape, where the rules' reader gives o: the same refusal, or the value's words.
-- A refusal says nothing of the tape
abbrev pub Gives : {A : Type 0} → (A → ℕ) → (A → List ℕ) → Out (A × ℕ) → List ℕ → ℕ → List ℕ → Result Read Refusal → Type 0
Gives size words o t to u (Ok r) = Got size words o t to u r.next r.end r.names
Gives size words o t to u (Err e) = o ≡ refuse (number e.reason) e.place

-- ---- words stored one after another

put-append : (a b t : List ℕ) (to : ℕ) → put (put t to a) (to + length a) b ≡ put t to (a ++ b)
unfolding put
put-append [] b t to = rw add-zero
put-append (w ∷ a) b t to = let e : to + suc (length a) ≡ to + 1 + length a = omega arith in rw e (put-append a b (set t to w) (to + 1))

-- a store before them may come first
set-put : (ws t : List ℕ) (to i w : ℕ) → i < to → set (put t to ws) i w ≡ put (set t i w) to ws
unfolding put
set-put [] t to i w h = refl
set-put (x ∷ ws) t to i w h =
    set-put ws (set t to x) (to + 1) i w (omega arith) ∙ ap (λ l. put l (to + 1) ws) (set_comm t to i x w (λ e. omega arith))

pub nothing : (t : List ℕ) (to : ℕ) → Wrote t to [] t to
unfolding put
nothing t to = record { end = omega arith; tape = refl }

pub stored : {t : List ℕ} {to w : ℕ} {u : List ℕ} → u ≡ set t to w → Wrote t to (w ∷ []) u (to + 1)
unfolding put
stored e = record { end = omega arith; tape = e }

pub later : {t : List ℕ} {to : ℕ} {a u : List ℕ} {m : ℕ} {b v : List ℕ} {z : ℕ} → Wrote t to a u m → Wrote u m b v z → Wrote t to (a ++ b) v z
later {t} {to} {a} {u} {m} {b} {v} {z} f g =
    record { end = omega (arith, f.end, g.end, length-append a b); tape = g.tape ∙ rw (f.tape, f.end) (put-append a b t to) }

-- a word kept free, and stored last, that holds how many words are after it
pub patch : {t : List ℕ} {to : ℕ} {ws u : List ℕ} {m : ℕ} {v : List ℕ} (w : ℕ → ℕ) → Wrote t (to + 1) ws u m → v ≡ set u to (w (m - to - 1)) → Wrote t to (w (length ws) ∷ ws) v m
unfolding put
patch {t} {to} {ws} {u} {m} w f e =
    let l : m - to - 1 ≡ length ws = omega (arith, f.end) in
    record { end = omega (arith, f.end); tape = e ∙ rw (l, f.tape) (set-put ws t (to + 1) to (w (length ws)) (omega arith)) }

-- the same words under another name
pub as-words : {t : List ℕ} {to : ℕ} {a b u : List ℕ} {m : ℕ} → a ≡ b → Wrote t to a u m → Wrote t to b u m
as-words e f = rw (← e) f

-- no size
abbrev pub none : {A : Type 0} → A → ℕ
none a = 0

-- ---- what stands where, if there is room

pub put_is : (ws t : List ℕ) (to : ℕ) → to + length ws ≤ length t → put t to ws ≡ take to t ++ (ws ++ drop (to + length ws) t)
unfolding put
put_is [] t to h = rw add-zero (sym (take-append-drop to t))
put_is (w ∷ ws) t to h =
    let e : to + 1 + length ws ≡ to + suc (length ws) = omega arith in
    let l : to + 1 + length ws ≤ length (set t to w) = simp length-set (omega arith) in
    let i : to < length t = omega arith in
    let j : to < to + suc (length ws) = omega arith in
    put_is ws (set t to w) (to + 1) l ∙ rw (e, add-one, take-suc-set t to w i, drop-set-lt (to + suc (length ws)) t to w j, append_assoc)
