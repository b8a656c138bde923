-- An expression as its factors, in order: each with its head, as its word has them. Taking them one by one, with a sum and a term in
-- hand, gives the value of an expression that is grouped as it is read. Assumes nothing.
use Rattle.std.specs.Prelude.{◌≡◌, refl, ℕ, ◌+◌, ◌-◌, ◌/◌, ◌%◌, ◌<◌, Bool, true, false, not, List, [], ◌∷◌, ◌++◌, eqb, pos, cond, ℤ, Option, Some, None}
use Rattle.std.proofs.Common.{sym, ap, ◌∙◌, arith, eq-eqb, ne_eqb, eqb-true}
use Rattle.std.proofs.lemmas.Bool.{eqb-false}
use Rattle.rules.specs.Text.{pick}
use Rattle.rules.specs.Syntax.{Op, plus, minus, times, Exp, number, name, neg, group, both, Callee}
use Rattle.rules.specs.Values.{Env}
use Rattle.rules.proofs.Laws.Spelt.{AllExp, strength}
use Rattle.tape.specs.Layout.{head_of, flip}
use Rattle.values.specs.declared.Mark.{Mark}
use Rattle.values.specs.declared.Mark.TheVariants.{First, Plus, Minus, Times}
use Rattle.values.specs.declared.Sum.{Sum}
use Rattle.values.specs.Numbers.{negation, joined, mark_of, value, value-twice, join}

-- ---- the loop over factors

-- a factor's value, by the minuses before it
unfoldable pub signed : ℕ → Option ℤ → Option ℤ
signed h v = pick (eqb (h % 2) 0) v (negation v)

unfoldable pub total : Sum → Option ℤ
total s = joined s.mark s.sum s.term

-- one more factor with the mark m before it: a * goes on with the term, any other begins one
unfoldable pub taken : Mark → Option ℤ → Sum → Sum
taken First v s = record { sum = total s; mark = First; term = v }
taken Plus v s = record { sum = total s; mark = Plus; term = v }
taken Minus v s = record { sum = total s; mark = Minus; term = v }
taken Times v s = record { sum = s.sum; mark = s.mark; term = joined Times s.term v }

-- the mark in a factor's head
abbrev pub mark_in : ℕ → Mark
mark_in h = cond (eqb (h / 2) 0) First (cond (eqb (h / 2) 1) Plus (cond (eqb (h / 2) 2) Minus Times))

unfoldable pub step : ℕ → Option ℤ → Sum → Sum
step h v s = taken (mark_in h) (signed h v) s

-- a factor: its head, and a number, a name or a bracket
pub record Factor : Type 0 where
  pub head : ℕ
  pub base : Exp ℕ

unfoldable pub factors : ℕ → Exp ℕ → List Factor
factors h (number v) = record { head = h; base = number v } ∷ []
factors h (name n) = record { head = h; base = name n } ∷ []
factors h (neg e) = factors (flip h) e
factors h (group e) = record { head = h; base = group e } ∷ []
factors h (both o d e) = factors h d ++ factors (head_of o) e

unfoldable pub steps : Env → List Factor → Sum → Sum
steps ρ [] s = s
steps ρ (f ∷ fs) s = steps ρ fs (step f.head (value ρ f.base) s)

-- nothing is in hand
unfoldable pub nothing : Sum
nothing = record { sum = Some (pos 0); mark = First; term = Some (pos 0) }

-- ---- it gives the value

steps-append : (ρ : Env) (a b : List Factor) (s : Sum) → steps ρ (a ++ b) s ≡ steps ρ b (steps ρ a s)
unfolding steps
steps-append ρ [] b s = refl
steps-append ρ (f ∷ a) b s = steps-append ρ a b _

-- names are numbers below 48, numbers have 6 digits, and marks group as they are read; of calls and places nothing is said
abbrev pub Grouped : ℕ → Exp ℕ → Type 0
Grouped l e = AllExp {C = Callee} (λ k. k < 48) (λ p c. Unit {0}) 0 l e

pub grouped : (Q : ℕ → Callee → Type 0) (len l : ℕ) (e : Exp ℕ) → AllExp {C = Callee} (λ k. k < 48) Q len l e → Grouped l e
unfolding AllExp
grouped Q len l (number v) p = p
grouped Q len l (name n) p = p
grouped Q len l (neg e) p = grouped Q len 0 e p
grouped Q len l (group e) p = grouped Q len 2 e p
grouped Q len l (both op d e) p = (p.0, grouped Q len _ d p.1, grouped Q len _ e p.2)

pub flip-half : (h : ℕ) → flip h / 2 ≡ h / 2
unfolding flip pick
flip-half h = go (eqb (h % 2) 0) refl
  where
    go : (c : Bool) → eqb (h % 2) 0 ≡ c → pick c (h + 1) (h - 1) / 2 ≡ h / 2
    go true e = omega (arith, eqb-true (h % 2) 0 e)
    go false e = omega (arith, eqb-false (h % 2) 0 e)

flip-odd : (h : ℕ) → eqb (flip h % 2) 0 ≡ not (eqb (h % 2) 0)
unfolding flip pick
flip-odd h = go (eqb (h % 2) 0) refl
  where
    go : (c : Bool) → eqb (h % 2) 0 ≡ c → eqb (pick c (h + 1) (h - 1) % 2) 0 ≡ not c
    go true e = ne_eqb ((h + 1) % 2) 0 (λ q. omega (arith, eqb-true (h % 2) 0 e, q))
    go false e = eq-eqb ((h - 1) % 2) 0 (omega (arith, eqb-false (h % 2) 0 e))

flip-signed : (ρ : Env) (h : ℕ) (e : Exp ℕ) → signed (flip h) (value ρ e) ≡ signed h (negation (value ρ e))
unfolding signed pick
flip-signed ρ h e = rw (flip-odd h) (go (eqb (h % 2) 0))
  where
    go : (c : Bool) → pick (not c) (value ρ e) (negation (value ρ e)) ≡ pick c (negation (value ρ e)) (negation (negation (value ρ e)))
    go true = refl
    go false = sym (value-twice ρ e)

step-flip : (ρ : Env) (h : ℕ) (e : Exp ℕ) (s : Sum) → step (flip h) (value ρ e) s ≡ step h (negation (value ρ e)) s
unfolding step
step-flip ρ h e s = rw (flip-half h, flip-signed ρ h e)

-- a factor, whatever minuses stand before it
factor-is : (ρ : Env) (e : Exp ℕ) (h : ℕ) (s : Sum) → Grouped 0 e → steps ρ (factors h e) s ≡ step h (value ρ e) s
unfolding steps factors value AllExp strength
factor-is ρ (number v) h s p = refl
factor-is ρ (name n) h s p = refl
factor-is ρ (neg e) h s p = factor-is ρ e (flip h) s p ∙ step-flip ρ h e s
factor-is ρ (group e) h s p = refl
factor-is ρ (both times d e) h s p = absurd (omega (arith, p.0))
factor-is ρ (both plus d e) h s p = absurd (omega (arith, p.0))
factor-is ρ (both minus d e) h s p = absurd (omega (arith, p.0))

-- a term goes on by *
taken-times : (m : Mark) (v w : Option ℤ) (s : Sum) → (m ≡ Times → ⊥) → taken Times w (taken m v s) ≡ taken m (joined Times v w) s
unfolding taken
taken-times First v w s h = refl
taken-times Plus v w s h = refl
taken-times Minus v w s h = refl
taken-times Times v w s h = absurd (h refl)

-- any other mark begins a term
pub taken-other : (m : Mark) (v : Option ℤ) (s : Sum) → (m ≡ Times → ⊥) → taken m v s ≡ record { sum = total s; mark = m; term = v }
unfolding taken
taken-other First v s h = refl
taken-other Plus v s h = refl
taken-other Minus v s h = refl
taken-other Times v s h = absurd (h refl)

-- a head with a mark and no minus
abbrev mark_head : Mark → ℕ
mark_head First = 0
mark_head Plus = 2
mark_head Minus = 4
mark_head Times = 6

step-even : (m : Mark) (v : Option ℤ) (s : Sum) → step (mark_head m) v s ≡ taken m v s
unfolding step signed pick
step-even First v s = refl
step-even Plus v s = refl
step-even Minus v s = refl
step-even Times v s = refl

term-times : (ρ : Env) (d e : Exp ℕ) (m : Mark) (s : Sum) → (m ≡ Times → ⊥) → steps ρ (factors (mark_head m) d) s ≡ taken m (value ρ d) s → Grouped 0 e
    → steps ρ (factors (mark_head m) (both times d e)) s ≡ taken m (value ρ (both times d e)) s
unfolding factors head_of value mark_of
term-times ρ d e m s h i p =
    steps-append ρ (factors (mark_head m) d) (factors 6 e) s ∙ factor-is ρ e 6 _ p ∙ step-even Times (value ρ e) _ ∙ ap (taken Times (value ρ e)) i ∙ taken-times m (value ρ d) (value ρ e) s h

term_is : (ρ : Env) (e : Exp ℕ) (m : Mark) (s : Sum) → (m ≡ Times → ⊥) → Grouped 1 e → steps ρ (factors (mark_head m) e) s ≡ taken m (value ρ e) s
unfolding AllExp strength
term_is ρ (number v) m s h p = factor-is ρ (number v) (mark_head m) s p ∙ step-even m _ s
term_is ρ (name n) m s h p = factor-is ρ (name n) (mark_head m) s p ∙ step-even m _ s
term_is ρ (neg e) m s h p = factor-is ρ (neg e) (mark_head m) s p ∙ step-even m _ s
term_is ρ (group e) m s h p = factor-is ρ (group e) (mark_head m) s p ∙ step-even m _ s
term_is ρ (both times d e) m s h p = term-times ρ d e m s h (term_is ρ d m s h p.1) p.2
term_is ρ (both plus d e) m s h p = absurd (omega (arith, p.0))
term_is ρ (both minus d e) m s h p = absurd (omega (arith, p.0))

total-taken : (m : Mark) (v : Option ℤ) (s : Sum) → (m ≡ Times → ⊥) → total (taken m v s) ≡ joined m (total s) v
unfolding total
total-taken m v s h = rw (taken-other m v s h)

total_first : (v : Option ℤ) → total (taken First v nothing) ≡ v
unfolding taken total nothing joined join
total_first (Some z) = refl
total_first None = refl

sum_is : (ρ : Env) (op : Op) (d e : Exp ℕ) → (mark_of op ≡ Times → ⊥) → head_of op ≡ mark_head (mark_of op) → total (steps ρ (factors 0 d) nothing) ≡ value ρ d → Grouped 1 e
    → total (steps ρ (factors 0 (both op d e)) nothing) ≡ value ρ (both op d e)
unfolding factors value
sum_is ρ op d e h k i p =
    rw (steps-append ρ (factors 0 d) (factors (head_of op) e) nothing, k, term_is ρ e (mark_of op) (steps ρ (factors 0 d) nothing) h p) (total-taken (mark_of op) (value ρ e) _ h ∙ ap (λ t. joined (mark_of op) t (value ρ e)) i)

first-apart : First ≡ Times → ⊥
first-apart q = cc

abbrev first : (ρ : Env) (e : Exp ℕ) → Grouped 1 e → total (steps ρ (factors 0 e) nothing) ≡ value ρ e
first ρ e p = ap total (term_is ρ e First nothing first-apart p) ∙ total_first (value ρ e)

-- "Equal strengths group from the left."
pub steps-value : (ρ : Env) (e : Exp ℕ) → Grouped 2 e → total (steps ρ (factors 0 e) nothing) ≡ value ρ e
unfolding AllExp strength mark_of head_of
steps-value ρ (number v) p = first ρ (number v) p
steps-value ρ (name n) p = first ρ (name n) p
steps-value ρ (neg e) p = first ρ (neg e) p
steps-value ρ (group e) p = first ρ (group e) p
steps-value ρ (both times d e) p = first ρ (both times d e) (omega arith, p.1, p.2)
steps-value ρ (both plus d e) p = sum_is ρ plus d e (λ q. cc) refl (steps-value ρ d p.1) p.2
steps-value ρ (both minus d e) p = sum_is ρ minus d e (λ q. cc) refl (steps-value ρ d p.1) p.2
