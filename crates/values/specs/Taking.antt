-- Factors taken from the tape one by one: what is left of an expression's factors at each turn. Assumes nothing.
use Rattle.std.proofs.Math.Path.{◌≡◌, refl, sym, ap, subst}
use Rattle.std.proofs.Common.{◌∙◌, arith, lt-ltb, le-leb, le-ltb}
use Rattle.std.specs.Prelude.{ℕ, ◌+◌, ◌≤◌, ◌<◌, get_or, eqb, ℤ, pos, Option, Some, None}
use Rattle.std.proofs.Math.Bool.{true, false}
use mathlib.Core.List.{List, [], ◌∷◌}
use Rattle.std.proofs.Math.ListN.{length, length-append}
use Rattle.rules.specs.Text.{pick}
use Rattle.rules.specs.Syntax.{Exp, number, name, neg, group, both}
use Rattle.rules.specs.Values.{Env, generics, eval}
use Rattle.rules.proofs.Laws.Spelt.{All}
use Rattle.tape.specs.Layout.{pack, kind_of, head_in, value_of, kind-of, head-of, value-of}
use Rattle.tape.specs.Encoding.{exp_w, list_w}
use Rattle.tape.specs.Resolved.{slot_w}
use Rattle.tape.specs.Lies.{Lies, lies-first, lies-rest, lies-left, lies-right}
use Rattle.values.specs.declared.Valued.{Valued}
use Rattle.values.specs.declared.Sum.{Sum}
use Rattle.values.specs.Numbers.{clipped, value, value-is}
use Rattle.values.specs.Factors.{Factor, factors, step, steps, total, nothing, steps-value}
use Rattle.values.specs.Here.{goes_on, Here, Says, Plain, Sound, factor_w, HereFactor, Joins, row, factors-words, factors-sound, number_in, value_at, says-number, says-value}

-- the place after the factor at i
unfoldable pub after_of : List ℕ → ℕ → ℕ
after_of t i = pick (eqb (kind_of (get_or t i 0)) 2) (i + 1 + value_of (get_or t i 0)) (i + 1)

-- the value of a factor that is one word
unfoldable pub plain_of : List ℤ → ℕ → Option ℤ
plain_of vs w = pick (eqb (kind_of w) 1) (clipped (get_or vs (value_of w) (pos 0))) (clipped (pos (value_of w)))

-- ---- the first word of a factor

pub record Leads (t : List ℕ) (i h : ℕ) (e : Exp ℕ) : Type 0 where
  pub kind : kind_of (get_or t i 0) ≤ 2
  pub head : head_in (get_or t i 0) ≡ h
  pub after : after_of t i ≡ i + length (exp_w slot_w h e)

-- a word by its parts
leads-word : {t : List ℕ} {i : ℕ} {e : Exp ℕ} (k h v : ℕ) → k ≤ 2 → h < 8 → v < 33554432 → get_or t i 0 ≡ pack k h v
    → pick (eqb k 2) (i + 1 + v) (i + 1) ≡ i + length (exp_w slot_w h e) → Leads t i h e
unfolding after_of
leads-word k h v lk lh lv w a = record {
  kind = rw (w, kind-of k h v lh lv) lk;
  head = rw w (head-of k h v lh lv);
  after = rw (w, kind-of k h v lh lv, value-of k h v lh lv) a;
}

pub leads : (t : List ℕ) (i h : ℕ) (e : Exp ℕ) → h < 8 → Plain e → length (exp_w slot_w h e) ≤ 33554432 → Lies t i (exp_w slot_w h e) → Leads t i h e
unfolding Plain exp_w pick
leads t i h (number v) lh p s l = leads-word {e = number v} 0 h v (omega arith) lh (omega arith) (lies-first l) refl
leads t i h (name n) lh p s l = leads-word {e = name n} 1 h n (omega arith) lh (omega arith) (lies-first l) refl
leads t i h (neg e) lh p s l = absurd p
leads t i h (group e) lh p s l = leads-word {e = group e} 2 h (length (exp_w slot_w 0 e)) (omega arith) lh (omega arith) (lies-first l) (omega arith)
leads t i h (both o d e) lh p s l = absurd p

pub leads-here : {t : List ℕ} {i next : ℕ} {f : Factor} → HereFactor t i next f → Leads t i f.head f.base
leads-here {t} {i} {next} {f} k = leads t i f.head f.base k.sound.head k.sound.base (omega (arith, k.after, k.short)) k.lies

-- ---- a factor of one word

pub record OneWord (vs : List ℤ) (w : ℕ) (e : Exp ℕ) : Type 0 where
  pub slot : kind_of w ≡ 1 → value_of w < 48
  pub is : plain_of vs w ≡ value (generics vs) e

plain_word : (vs : List ℤ) (w : ℕ) (k h v : ℕ) (e : Exp ℕ) → h < 8 → v < 33554432 → w ≡ pack k h v → (k ≡ 1 → v < 48)
    → pick (eqb k 1) (clipped (get_or vs v (pos 0))) (clipped (pos v)) ≡ value (generics vs) e → OneWord vs w e
unfolding plain_of
plain_word vs w k h v e lh lv q s p = record {
  slot = rw (q, kind-of k h v lh lv, value-of k h v lh lv) s;
  is = rw (q, kind-of k h v lh lv, value-of k h v lh lv) p;
}

pub one_word : (t : List ℕ) (vs : List ℤ) (i next h : ℕ) (e : Exp ℕ) → HereFactor t i next (record { head = h; base = e }) → (kind_of (get_or t i 0) ≡ 2 → ⊥) → OneWord vs (get_or t i 0) e
unfolding Plain exp_w pick value
one_word t vs i next h (number v) k n = plain_word vs _ 0 h v (number v) k.sound.head (omega (arith, k.sound.base)) (lies-first k.lies) (λ q. absurd (omega (arith, q))) refl
one_word t vs i next h (name x) k n = plain_word vs _ 1 h x (name x) k.sound.head (omega (arith, k.sound.base)) (lies-first k.lies) (λ q. k.sound.base) refl
one_word t vs i next h (neg e) k n = absurd k.sound.base
one_word t vs i next h (group e) k n = absurd (n (rw (lies-first k.lies) (kind-of 2 h (length (exp_w slot_w 0 e)) k.sound.head (omega (arith, k.after, k.short)))))
one_word t vs i next h (both o d e) k n = absurd k.sound.base

-- ---- a bracket

pub record Inside (t : List ℕ) (i next : ℕ) (e : Exp ℕ) : Type 0 where
  pub exp : Exp ℕ
  pub is : e ≡ group exp
  pub here : Here t (i + 1) next exp

at-end : (t : List ℕ) (i n : ℕ) → n ≤ i → goes_on t i n ≡ false
unfolding goes_on
at-end t i n h = rw (le-ltb i n h)

not-two : (t : List ℕ) (i h k v : ℕ) → get_or t i 0 ≡ pack k h v → h < 8 → v < 33554432 → (k ≡ 2 → ⊥) → kind_of (get_or t i 0) ≡ 2 → ⊥
not-two t i h k v w lh lv n e = n (sym (kind-of k h v lh lv) ∙ sym (ap kind_of w) ∙ e)

pub inside : (t : List ℕ) (i next h : ℕ) (e : Exp ℕ) → HereFactor t i next (record { head = h; base = e }) → kind_of (get_or t i 0) ≡ 2 → Inside t i next e
unfolding Plain exp_w
inside t i next h (number v) k n = absurd (not-two t i h 0 v (lies-first k.lies) k.sound.head (omega (arith, k.sound.base)) (λ q. omega (arith, q)) n)
inside t i next h (name x) k n = absurd (not-two t i h 1 x (lies-first k.lies) k.sound.head (omega (arith, k.sound.base)) (λ q. omega (arith, q)) n)
inside t i next h (neg e) k n = absurd k.sound.base
inside t i next h (group e) k n = record {
  exp = e;
  is = refl;
  here = record {
    grouped = k.sound.base;
    lies = lies-rest k.lies;
    within = omega (arith, k.after);
    limit = k.limit;
    short = k.short;
    stops = at-end t _ next (omega (arith, k.after));
  };
}
inside t i next h (both o d e) k n = absurd k.sound.base

-- ---- the factors that are left from i on, with s in hand

pub record Left (ρ : Env) (t : List ℕ) (at : ℕ) (e : Exp ℕ) (i : ℕ) (s : Sum) : Type 0 where
  pub first : Factor
  pub others : List Factor
  pub sound : Sound first
  pub sounds : All Sound others
  pub join : All Joins others
  pub lies : Lies t i (list_w factor_w (first ∷ others))
  pub ends : i + length (list_w factor_w (first ∷ others)) ≡ at + length (exp_w slot_w 0 e)
  pub same : steps ρ (first ∷ others) s ≡ steps ρ (factors 0 e) nothing
  pub from : at ≤ i

pub begin : {ρ : Env} {t : List ℕ} {at end : ℕ} {e : Exp ℕ} → Here t at end e → Left ρ t at e at nothing
unfolding All
begin {ρ} {t} {at} {end} {e} h =
    let r = row 0 e in
    let w : list_w factor_w (r.first ∷ r.others) ≡ exp_w slot_w 0 e = ap (list_w factor_w) (sym r.whole) ∙ factors-words 0 e in
    let a : All Sound (r.first ∷ r.others) = subst (All Sound) r.whole (factors-sound 0 2 e (omega arith) h.grouped) in
    record {
      first = r.first;
      others = r.others;
      sound = a.0;
      sounds = a.1;
      join = r.join;
      lies = subst (Lies t at) (sym w) h.lies;
      ends = ap (λ l. at + length l) w;
      same = ap (λ fs. steps ρ fs nothing) (sym r.whole);
      from = omega arith;
    }

pub factor-here : {ρ : Env} {t : List ℕ} {at end : ℕ} {e : Exp ℕ} {i : ℕ} {s : Sum} → Here t at end e → (l : Left ρ t at e i s) → HereFactor t i (i + length (factor_w l.first)) l.first
unfolding list_w
factor-here h l =
    let n = length-append (factor_w l.first) (list_w factor_w l.others) in
    record {
      sound = l.sound;
      lies = lies-left (factor_w l.first) (list_w factor_w l.others) l.lies;
      after = refl;
      limit = omega (arith, l.ends, h.within, h.limit, n);
      short = omega (arith, l.ends, h.within, h.short, n);
    }

-- the factor at i, by the place that the code finds after it
pub factor-next : {ρ : Env} {t : List ℕ} {at end : ℕ} {e : Exp ℕ} {i : ℕ} {s : Sum} → Here t at end e → (l : Left ρ t at e i s) → HereFactor t i (after_of t i) l.first
factor-next {t = t} {i = i} h l = let k = factor-here h l in subst (λ n. HereFactor t i n l.first) (sym (leads-here k).after) k

-- one factor is taken
abbrev pub Then : {ρ : Env} {t : List ℕ} {at : ℕ} {e : Exp ℕ} {i : ℕ} {s : Sum} → Left ρ t at e i s → Sum
Then {ρ = ρ} {t = t} {i = i} {s = s} l = step (head_in (get_or t i 0)) (value ρ l.first.base) s

module _ {ρ : Env} {t : List ℕ} {at end : ℕ} {e : Exp ℕ} {i : ℕ} {s : Sum} (h : Here t at end e) (l : Left ρ t at e i s) where
  then_same : steps ρ l.others (Then l) ≡ steps ρ (factors 0 e) nothing
  unfolding steps
  then_same = rw (leads-here (factor-here h l)).head l.same

  then-lies : Lies t (after_of t i) (list_w factor_w l.others)
  unfolding list_w
  then-lies = rw (leads-here (factor-here h l)).after (lies-right (factor_w l.first) (list_w factor_w l.others) l.lies)

  then-ends : after_of t i + length (list_w factor_w l.others) ≡ at + length (exp_w slot_w 0 e)
  unfolding list_w
  then-ends = omega (arith, (leads-here (factor-here h l)).after, l.ends, length-append (factor_w l.first) (list_w factor_w l.others))

  then-left : (g : Factor) (gs : List Factor) → l.others ≡ g ∷ gs → Left ρ t at e (after_of t i) (Then l)
  unfolding All
  then-left g gs w =
      let a = subst (All Sound) w l.sounds in
      let j = subst (All Joins) w l.join in
      record {
        first = g;
        others = gs;
        sound = a.0;
        sounds = a.1;
        join = j.1;
        lies = subst (λ fs. Lies t (after_of t i) (list_w factor_w fs)) w then-lies;
        ends = subst (λ fs. after_of t i + length (list_w factor_w fs) ≡ at + length (exp_w slot_w 0 e)) w then-ends;
        same = subst (λ fs. steps ρ fs (Then l) ≡ steps ρ (factors 0 e) nothing) w then_same;
        from = omega (arith, l.from, (leads-here (factor-here h l)).after);
      }

  -- with none left, it ends here
  none_left : l.others ≡ [] → after_of t i ≡ at + length (exp_w slot_w 0 e)
  unfolding list_w
  none_left w = omega (arith, subst (λ fs. after_of t i + length (list_w factor_w fs) ≡ at + length (exp_w slot_w 0 e)) w then-ends)

goes : {t : List ℕ} {i next : ℕ} {f : Factor} (end : ℕ) → HereFactor t i next f → Joins f → i < end → goes_on t i end ≡ true
unfolding goes_on
goes {t} {i} {next} {f} end k j h =
    let d = leads-here k in
    rw (lt-ltb i end h, le-leb (kind_of (get_or t i 0)) 2 d.kind, le-leb 2 (head_in (get_or t i 0)) (omega (arith, d.head)))

pub plain-some : (h : ℕ) (e : Exp ℕ) → Plain e → 0 < length (exp_w slot_w h e)
unfolding Plain exp_w
plain-some h (number v) p = omega arith
plain-some h (name v) p = omega arith
plain-some h (neg e) p = absurd p
plain-some h (group e) p = omega arith
plain-some h (both o d e) p = absurd p

pub factor-some : {t : List ℕ} {i next : ℕ} {f : Factor} → HereFactor t i next f → i < next
factor-some {t} {i} {next} {f} k = omega (arith, k.after, plain-some f.head f.base k.sound.base)

module _ {ρ : Env} {t : List ℕ} {at end : ℕ} {e : Exp ℕ} {i : ℕ} {s : Sum} (h : Here t at end e) (l : Left ρ t at e i s) where
  pub go_on : goes_on t (after_of t i) end ≡ true → Left ρ t at e (after_of t i) (Then l)
  go_on g = by l.others refl
    where
      by : (fs : List Factor) → l.others ≡ fs → Left ρ t at e (after_of t i) (Then l)
      by [] w = let z : true ≡ false = sym g ∙ ap (λ n. goes_on t n end) (none_left h l w) ∙ h.stops in absurd (let y : ◌≡◌ {A = ℕ} 0 1 = cc in omega arith)
      by (f ∷ fs) w = then-left h l f fs w

  pub finish : goes_on t (after_of t i) end ≡ false → (after_of t i ≡ at + length (exp_w slot_w 0 e)) × (total (Then l) ≡ value ρ e)
  unfolding steps All list_w then-left
  finish g = by l.others refl
    where
      by : (fs : List Factor) → l.others ≡ fs → (after_of t i ≡ at + length (exp_w slot_w 0 e)) × (total (Then l) ≡ value ρ e)
      by [] w = (none_left h l w, ap total (subst (λ fs. steps ρ fs (Then l) ≡ steps ρ (factors 0 e) nothing) w (then_same h l)) ∙ steps-value ρ e h.grouped)
      by (f ∷ fs) w =
          let m = then-left h l f fs w in
          let k = factor-next h m in
          let j : All Joins (f ∷ fs) = subst (All Joins) w l.join in
          let z : true ≡ false = sym (goes end k j.0 (omega (arith, plain-some f.head f.base k.sound.base, m.ends, h.within, length-append (factor_w f) (list_w factor_w fs)))) ∙ g in
          absurd (let y : ◌≡◌ {A = ℕ} 0 1 = cc in omega arith)

-- ---- one turn of the loop, as the code goes through it

pub record Turn (t : List ℕ) (at end i next : ℕ) : Type 0 where
  pub room : i < length t
  pub short : i < 33554432
  pub from : at ≤ i
  pub forward : i < next
  pub within : next ≤ end

module _ {ρ : Env} {t : List ℕ} {at end : ℕ} {e : Exp ℕ} {i : ℕ} {s : Sum} (h : Here t at end e) (l : Left ρ t at e i s) where
  pub turn : Turn t at end i (after_of t i)
  turn =
      let k = factor-next h l in
      record {
        room = omega (arith, k.limit, factor-some k);
        short = omega (arith, k.short, factor-some k);
        from = l.from;
        forward = factor-some k;
        within = omega (arith, then-ends h l, h.within);
      }

  then_is : (head : ℕ) (v : Option ℤ) (s' : Sum) → s' ≡ step head v s → head ≡ head_in (get_or t i 0) → v ≡ value ρ l.first.base → s' ≡ Then l
  then_is head v s' p q r = p ∙ rw (q, r)

  pub onward : (head next : ℕ) (v : Option ℤ) (s' : Sum) → s' ≡ step head v s → head ≡ head_in (get_or t i 0) → v ≡ value ρ l.first.base → next ≡ after_of t i
      → goes_on t next end ≡ true → Left ρ t at e next s'
  onward head next v s' p q r n g = rw (then_is head v s' p q r, n) (go_on h l (rw n at g))

  pub ending : (head next : ℕ) (v : Option ℤ) (s' : Sum) (a : Option Valued) → s' ≡ step head v s → head ≡ head_in (get_or t i 0) → v ≡ value ρ l.first.base → next ≡ after_of t i
      → goes_on t next end ≡ false → a ≡ value_at (total s') next → Says (eval ρ e) (at + length (exp_w slot_w 0 e)) a
  ending head next v s' a p q r n g w =
      let f = finish h l (rw n at g) in
      let x : a ≡ value_at (value ρ e) (at + length (exp_w slot_w 0 e)) = w ∙ rw (then_is head v s' p q r, n, f.0, f.1) in
      rw (x, ← (value-is ρ e)) (says-value (value ρ e) (at + length (exp_w slot_w 0 e)))

  -- the code's two returns
  pub ended : (head next : ℕ) (v : Option ℤ) (s' : Sum) {z : ℤ} → s' ≡ step head v s → head ≡ head_in (get_or t i 0) → v ≡ value ρ l.first.base → next ≡ after_of t i
      → goes_on t next end ≡ false → total s' ≡ Some z → Says (eval ρ e) (at + length (exp_w slot_w 0 e)) (Some (record { value = z; next = next }))
  unfolding value_at
  ended head next v s' p q r n g w = ending head next v s' _ p q r n g (rw w)

  pub ended_beyond : (head next : ℕ) (v : Option ℤ) (s' : Sum) → s' ≡ step head v s → head ≡ head_in (get_or t i 0) → v ≡ value ρ l.first.base → next ≡ after_of t i
      → goes_on t next end ≡ false → total s' ≡ None → Says (eval ρ e) (at + length (exp_w slot_w 0 e)) None
  unfolding value_at
  ended_beyond head next v s' p q r n g w = ending head next v s' _ p q r n g (rw w)

-- the number of a bracket is that of the expression in it
pub bracket-value : (ρ : Env) {t : List ℕ} {i next : ℕ} (e : Exp ℕ) (b : Inside t i next e) (n : ℕ) (r : Option Valued) → Says (eval ρ b.exp) n r → number_in r ≡ value ρ e
unfolding value
bracket-value ρ e b n r s = says-number (value ρ b.exp) n r (rw (value-is ρ b.exp) s) ∙ rw b.is
