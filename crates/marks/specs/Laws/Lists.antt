-- Laws of lists, read by a loop. Assumes nothing.
use Rattle.std.proofs.Math.Path.{◌≡◌}
use Rattle.std.specs.Prelude.{refl, ℕ, suc, ◌+◌, ◌*◌, ◌≤◌, Bool, Result, Ok, Err, List, [], ◌∷◌, ◌++◌, length, eqb}
use Rattle.std.proofs.Common.{sym, ◌∙◌, subst, arith}
use Prim.Native.String.{String}
use Rattle.std.proofs.Math.Bool.{true, false}
use Rattle.rules.specs.declared.Word.{Word}
use Rattle.rules.specs.declared.Word.TheVariants.{Bad, Name as Named, Number, Mark}
use Rattle.rules.specs.Text.{pick}
use Rattle.rules.specs.Outcome.{Out, refuse, ◌>>=◌ as ◌and-then◌}
use Rattle.rules.specs.Words.{word_at, key}
use Rattle.rules.specs.Readers.{Reader, ◌>>=◌, give, refused, marked, rest, some}
use Rattle.rules.proofs.Laws.Enough.{turn}
use Rattle.tape.specs.Encoding.{list_w}
use Rattle.tape.specs.Written.{Got, Gives, nothing, later, as-words}
use Rattle.tape.specs.declared.Read.{Read}
use Rattle.rules.specs.Reasons.{number}
use Rattle.rules.specs.declared.Refusal.{Refusal}
use Rattle.marks.specs.declared.Spot.{Spot}
use Rattle.marks.specs.declared.Divided.{Divided}
use Rattle.marks.specs.declared.Divided.TheVariants.{Another, Last}
use Rattle.marks.specs.Marks.{unwanted, dividing}
use Rattle.marks.specs.Room.{Spends}

-- how a list goes on, by what stands next
module _ {A : Type 0} (sep close : ℕ) (f g : ℕ → Reader A) where
  abbrev parts : Word → Out (A × ℕ)
  parts w = marked w λ b p. pick (eqb b sep) (f p) (pick (eqb b close) (g p) (refused 4 p))

  -- what the rules read, by what was found
  abbrev Divides : Out (A × ℕ) → Result Divided Refusal → Type 0
  Divides o (Ok (Another x)) = o ≡ f x.place x.next
  Divides o (Ok (Last n)) = (p : ℕ) × (o ≡ g p n)
  Divides o (Err e) = o ≡ refuse (number e.reason) e.place

  by_tests : (a c : Bool) (b p q : ℕ) → Divides (pick a (f p) (pick c (g p) (refused 4 p)) q) (pick a (Ok (Another (record { next = q; place = p }))) (pick c (Ok (Last q)) (Err (unwanted (Mark b p q)))))
  unfolding pick
  by_tests true c b p q = refl
  by_tests false true b p q = (p, refl)
  by_tests false false b p q = refl

  divides : (w : Word) → Divides (parts w) (dividing sep close w)
  unfolding dividing marked
  divides (Bad p) = refl
  divides (Named p q) = refl
  divides (Number p q v) = refl
  divides (Mark b p q) = by_tests (eqb b sep) (eqb b close) b p q

  found : (w : Word) (d : Result Divided Refusal) → d ≡ dividing sep close w → Divides (parts w) d
  found w d e = subst (Divides (parts w)) (sym e) (divides w)

-- a list of the grammar and its words: `size k` is the size of what is read after k items
pub record Row (s : List ℕ) {A B : Type 0} (one : A → ℕ) (f : A → List ℕ) (size : ℕ → B → ℕ) (g : B → List ℕ) (none : B) (more : A → B → B) (item : ℕ → ℕ → Reader A) (sep close : String) : Type 0 where
  pub empty : g none ≡ []
  pub split : (a : A) (b : B) → f a ++ g b ≡ g (more a b)
  pub grows : (k : ℕ) (a : A) (b : B) → size (suc k) b ≡ size k (more a b)
  pub again : (k at : ℕ) → at ≤ length s → rest s none more item sep close k at ≡ turn s none more item sep close (rest s none more item sep close) k at

module _ {s : List ℕ} {A B : Type 0} {one : A → ℕ} {f : A → List ℕ} {size : ℕ → B → ℕ} {g : B → List ℕ} {none : B} {more : A → B → B} {item : ℕ → ℕ → Reader A} {sep close : String}
    (R : Row s one f size g none more item sep close) where
  -- an item and the rest
  pub and-rest : (o : Out (A × ℕ)) (k : ℕ) {t : List ℕ} {to : ℕ} {u : List ℕ} {n m c : ℕ} (v : List ℕ) (r : Result Read Refusal) → Got one f o t to u n m c → Gives (size (suc k)) g (rest s none more item sep close (suc k) n) u m v r
      → Gives (size k) g (◌and-then◌ o (λ x. (rest s none more item sep close (suc k) >>= λ l. give (more x.0 l)) x.1)) t to v r
  unfolding ◌and-then◌ ◌>>=◌ give
  and-rest o k v (Ok r) a b = record {
    value = more a.value b.value;
    reads = rw (a.reads, b.reads);
    wrote = as-words (R.split a.value b.value) (later a.wrote b.wrote);
    counts = b.counts ∙ R.grows k a.value b.value;
  }
  and-rest o k v (Err e) a b = rw (a.reads, b)

  -- one item or more
  pub first : (k at : ℕ) {t : List ℕ} {to : ℕ} {u : List ℕ} {n m c : ℕ} (v : List ℕ) (r : Result Read Refusal) → Got one f (item k 0 at) t to u n m c → Gives (size (suc k)) g (rest s none more item sep close (suc k) n) u m v r
      → Gives (size k) g (some s none more item sep close k at) t to v r
  unfolding some ◌>>=◌
  first k at v r a b = and-rest (item k 0 at) k v r a b

  -- where the items are counted
  pub first_of : (k at : ℕ) {t : List ℕ} {to : ℕ} {u : List ℕ} {n m c : ℕ} (v : List ℕ) (r : Result Read Refusal) → Got one f (item k 0 at) t to u n m c → (j : ℕ) → j ≡ suc k → Gives (size j) g (rest s none more item sep close j n) u m v r
      → Gives (size k) g (some s none more item sep close k at) t to v r
  first_of k at {u = u} {n} {m} v r a j e b = first k at v r a (subst (λ i. Gives (size i) g (rest s none more item sep close i n) u m v r) e b)

  pub first_off : (k at : ℕ) {j p : ℕ} → item k 0 at ≡ refuse j p → some s none more item sep close k at ≡ refuse j p
  unfolding some ◌>>=◌ ◌and-then◌
  first_off k at e = rw e

  -- the loop's invariant: what the rest of the list gives from here, it gives from the loop's start
  pub record Listing (t : List ℕ) (k₀ at to : ℕ) (u : List ℕ) (k next end : ℕ) : Type 0 where
    pub goes : (r : Result Read Refusal) (v : List ℕ) → Gives (size k) g (rest s none more item sep close k next) u end v r → Gives (size k₀) g (rest s none more item sep close k₀ at) t to v r
    pub stops : {j p : ℕ} → rest s none more item sep close k next ≡ refuse j p → rest s none more item sep close k₀ at ≡ refuse j p

  pub begun : (t : List ℕ) (k at to : ℕ) → Listing t k at to t k at to
  begun t k at to = record { goes = λ r v x. x; stops = λ e. e }

  module _ {t : List ℕ} {k₀ at to : ℕ} {u : List ℕ} {k next end : ℕ} (L : Listing t k₀ at to u k next end) (inside : next ≤ length s) where
    pub wrong : (e : Refusal) → Err e ≡ dividing (key sep) (key close) (word_at s next) → rest s none more item sep close k₀ at ≡ refuse (number e.reason) e.place
    unfolding turn
    wrong e h = L.goes (Err e) u (R.again k next inside ∙ found (key sep) (key close) _ _ (word_at s next) (Err e) h)

    pub last : (n c : ℕ) → Ok (Last n) ≡ dividing (key sep) (key close) (word_at s next) → c ≡ size k none → Got (size k₀) g (rest s none more item sep close k₀ at) t to u n end c
    unfolding turn give
    last n c e d = L.goes (Ok (record { next = n; end = end; names = c })) u (record {
      value = none;
      reads = R.again k next inside ∙ (found (key sep) (key close) (λ p. item k p >>= λ a. rest s none more item sep close (suc k) >>= λ r. give (more a r)) (λ p. give none) (word_at s next) (Ok (Last n)) e).1;
      wrote = as-words (sym R.empty) (nothing u end);
      counts = d;
    })

    module _ {x : Spot} (mark : Ok (Another x) ≡ dividing (key sep) (key close) (word_at s next)) where
      turns : rest s none more item sep close k next ≡ (item k x.place >>= λ a. rest s none more item sep close (suc k) >>= λ r. give (more a r)) x.next
      unfolding turn
      turns = R.again k next inside ∙ found (key sep) (key close) _ _ (word_at s next) (Ok (Another x)) mark

      pub item-off : {j q : ℕ} → item k x.place x.next ≡ refuse j q → rest s none more item sep close k₀ at ≡ refuse j q
      unfolding ◌>>=◌ ◌and-then◌
      item-off e = L.stops (turns ∙ rw e)

      pub on : {w : List ℕ} {y z c : ℕ} → Got one f (item k x.place x.next) u end w y z c → Listing t k₀ at to w (suc k) y z
      unfolding ◌>>=◌ ◌and-then◌
      on {w} {y} {z} a = record {
        goes = λ r v b. L.goes r v (rw turns (and-rest (item k x.place x.next) k v r a b));
        stops = λ e. L.stops (turns ∙ rw (a.reads, e));
      }

      -- where the items are counted
      pub onto : {w : List ℕ} {y z c : ℕ} → Got one f (item k x.place x.next) u end w y z c → (j : ℕ) → j ≡ suc k → Listing t k₀ at to w j y z
      onto a j e = rw e (on a)

-- ---- lists that are lists

pub list-empty : {A : Type 0} (f : A → List ℕ) → list_w f [] ≡ []
unfolding list_w
list-empty f = refl

pub list-split : {A : Type 0} (f : A → List ℕ) (a : A) (b : List A) → f a ++ list_w f b ≡ list_w f (a ∷ b)
unfolding list_w
list-split f a b = refl

-- ---- answers under another name

-- the same reader, written otherwise
pub via : {A : Type 0} (size : A → ℕ) (words : A → List ℕ) {o x : Out (A × ℕ)} (t : List ℕ) (to : ℕ) (u : List ℕ) (r : Result Read Refusal) → x ≡ o → Gives size words o t to u r → Gives size words x t to u r
via size words t to u r e g = rw e g

-- what is spent after a part that was spent before: `spare` bytes are left of the rest, and `less` of both
pub spent : (spare less len at n to m : ℕ) (r : Result Read Refusal) → at ≤ n → to ≤ m → 2 * m + at + less ≤ 2 * to + n + spare → Spends 0 spare len n m r → Spends 0 less len at to r
spent spare less len at n to m (Ok r) a b d e = omega arith
spent spare less len at n to m (Err r) a b d e = tt
