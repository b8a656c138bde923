-- Which refusals reading and names give: 3 to 5 the grammar, 6 to 9 the names. Assumes nothing.
use Rattle.std.specs.Prelude.{◌≡◌, Bool, [], ◌∷◌, ◌++◌}
use Rattle.std.proofs.Math.Path.{refl}
use Rattle.std.proofs.Common.{arith}
use Prim.Native.Nat.{ℕ, zero, suc, ◌≤◌}
use Rattle.std.proofs.Math.Bool.{true, false}
use mathlib.Core.List.{List, [], ◌∷◌, ◌++◌}
use Rattle.rules.specs.Text.{pick}
use Rattle.rules.specs.Outcome.{Out, ok, refuse, ◌>>=◌, at, need, nth}
use Rattle.rules.specs.Syntax.{Name, Exp, number, name, neg, group, both, Sort, wire, vector, num, Arg, whole, part, Stmts, end, call, loop, Decl, Block, Spelled}
use Rattle.rules.specs.Grammar.{grammar}
use Rattle.rules.specs.Names.{Role, Scope, declared, find, once, expression, expressions, argument, arguments}
use Rattle.rules.specs.Resolve.{called, statements, generics, sort, declarations, resolve_block, resolve_blocks, main_of, names}
use Rattle.rules.proofs.Laws.Fair.{Fair, on, off, fair-blocks}

-- if it refuses, then with a number from lo to hi
pub data Within (lo hi : ℕ) {A : Type 0} : Out A → Type 0 where
  fine : {a : A} → Within lo hi (ok a)
  no : {n p : ℕ} → lo ≤ n → n ≤ hi → Within lo hi (refuse n p)

pub wider : {A : Type 0} {lo hi lo' hi' : ℕ} {o : Out A} → lo' ≤ lo → hi ≤ hi' → Within lo hi o → Within lo' hi' o
wider h k fine = fine
wider {lo' = lo'} {hi' = hi'} h k (no {n} a b) = let x : lo' ≤ n = omega arith in let y : n ≤ hi' = omega arith in no x y

module _ {lo hi : ℕ} where
  pub within-then : {A B : Type 0} {o : Out A} {f : A → Out B} → Within lo hi o → ((a : A) → Within lo hi (f a)) → Within lo hi (o >>= f)
  unfolding ◌>>=◌
  within-then (fine {a}) g = g a
  within-then (no a b) g = no a b

  -- the same, where the second part may use what the first gave
  pub within-next : {A B : Type 0} {o : Out A} {f : A → Out B} → Within lo hi o → ((a : A) → o ≡ ok a → Within lo hi (f a)) → Within lo hi (o >>= f)
  unfolding ◌>>=◌
  within-next (fine {a}) g = g a refl
  within-next (no a b) g = no a b

  pub within-at : {A : Type 0} {o : Out A} (p : ℕ) → Within lo hi o → Within lo hi (at p o)
  unfolding at
  within-at p fine = fine
  within-at p (no a b) = no a b

  pub within-need : (c : Bool) (n : ℕ) → lo ≤ n → n ≤ hi → Within lo hi (need c n)
  unfolding need
  within-need true n a b = fine
  within-need false n a b = no a b

  pub within-nth : {A : Type 0} (n : ℕ) (xs : List A) (k : ℕ) → lo ≤ n → n ≤ hi → Within lo hi (nth n xs k)
  unfolding nth
  within-nth n [] k a b = no a b
  within-nth n (x ∷ xs) zero a b = fine
  within-nth n (x ∷ xs) (suc k) a b = within-nth n xs k a b

  pub within-pick : {A : Type 0} (c : Bool) {x y : Out A} → Within lo hi x → Within lo hi y → Within lo hi (pick c x y)
  unfolding pick
  within-pick true p q = p
  within-pick false p q = q

-- ---- the grammar

fair-within : {A : Type 0} {len at : ℕ} {o : Out (A × ℕ)} → Fair len at o → Within 3 5 o
fair-within (on h k) = fine
fair-within (off a b c) = no a b

pub grammar-within : (s : List ℕ) → Within 3 5 (grammar s)
unfolding grammar
grammar-within s = within-then (fair-within (fair-blocks s 0 (omega arith))) λ r. fine

-- ---- names

-- a refusal of names, at a place
abbrev Naming : {A : Type 0} → Out A → Type 0
Naming o = Within 6 9 o

test : (p : ℕ) (c : Bool) (n : ℕ) → 6 ≤ n → n ≤ 9 → Naming (at p (need c n))
test p c n a b = within-at p (within-need c n a b)

find-within : (E : Scope) (n : Name) → Naming (find E n)
unfolding find
find-within E n = within-then (test n.place _ 7 (omega arith) (omega arith)) λ _. fine

once-within : (E : Scope) (n : Name) → Naming (once E n)
unfolding once
once-within E n = test n.place _ 6 (omega arith) (omega arith)

expression-within : (E : Scope) (L : List ℕ) (e : Exp Name) → Naming (expression E L e)
unfolding expression
expression-within E L (number v) = fine
expression-within E L (name n) = within-then (find-within E n) λ k. within-then (test n.place _ 7 (omega arith) (omega arith)) λ _. fine
expression-within E L (neg e) = within-then (expression-within E L e) λ e. fine
expression-within E L (group e) = within-then (expression-within E L e) λ e. fine
expression-within E L (both op d e) = within-then (expression-within E L d) λ d. within-then (expression-within E L e) λ e. fine

expressions-within : (E : Scope) (L : List ℕ) (es : List (Exp Name)) → Naming (expressions E L es)
unfolding expressions
expressions-within E L [] = fine
expressions-within E L (e ∷ es) = within-then (expression-within E L e) λ e. within-then (expressions-within E L es) λ es. fine

argument-within : (E : Scope) (L : List ℕ) (w : Role) (a : Arg Name) → Naming (argument E L w a)
unfolding argument
argument-within E L w (whole n) =
    within-then (find-within E n) λ k. within-then (test n.place _ 7 (omega arith) (omega arith)) λ _. within-then (test n.place _ 8 (omega arith) (omega arith)) λ _. fine
argument-within E L w (part n e) =
    within-then (find-within E n) λ k. within-then (test n.place _ 7 (omega arith) (omega arith)) λ _. within-then (test n.place _ 8 (omega arith) (omega arith)) λ _.
    within-then (expression-within E L e) λ e. fine

arguments-within : (E : Scope) (L : List ℕ) (ws : List Role) (args : List (Arg Name)) → Naming (arguments E L ws args)
unfolding arguments
arguments-within E L [] [] = fine
arguments-within E L [] (a ∷ rest) = no {n = 8} (omega arith) (omega arith)
arguments-within E L (w ∷ ws) [] = no {n = 8} (omega arith) (omega arith)
arguments-within E L (w ∷ ws) (a ∷ rest) = within-then (argument-within E L w a) λ a. within-then (arguments-within E L ws rest) λ rest. fine

called-within : (Bs : Spelled) (n : Name) → Naming (called Bs n)
unfolding called
called-within Bs n = within-pick _ fine (within-at n.place (within-then (within-nth 7 Bs _ (omega arith) (omega arith)) λ B. fine))

statements-within : (Bs : Spelled) (E : Scope) (L : List ℕ) (c : Stmts Name Name) → Naming (statements Bs E L c)
unfolding statements
statements-within Bs E L end = fine
statements-within Bs E L (call p n gs ins outs rest) =
    within-then (called-within Bs n) λ w. within-then (test n.place _ 8 (omega arith) (omega arith)) λ _. within-then (expressions-within E L gs) λ gs.
    within-then (arguments-within E L w.inputs ins) λ ins. within-then (arguments-within E L w.outputs outs) λ outs. within-then (statements-within Bs E L rest) λ rest. fine
statements-within Bs E L (loop p i a b body rest) =
    within-then (find-within E i) λ k. within-then (test i.place _ 7 (omega arith) (omega arith)) λ _. within-then (expression-within E L a) λ a.
    within-then (expression-within E L b) λ b. within-then (statements-within Bs E (k ∷ L) body) λ body. within-then (statements-within Bs E L rest) λ rest. fine

generics-within : (E : Scope) (ns : List Name) → Naming (generics E ns)
unfolding generics
generics-within E [] = fine
generics-within E (n ∷ ns) = within-then (once-within E n) λ _. generics-within _ ns

sort-within : (E : Scope) (t : Sort Name) → Naming (sort E t)
unfolding sort
sort-within E wire = fine
sort-within E (vector a b) = within-then (expression-within E [] a) λ a. within-then (expression-within E [] b) λ b. fine
sort-within E num = fine

declarations-within : (E : Scope) (ds : List (Decl Name)) → Naming (declarations E ds)
unfolding declarations
declarations-within E [] = fine
declarations-within E (d ∷ ds) = within-then (once-within E d.name) λ _. within-then (sort-within E d.sort) λ t. within-then (declarations-within (E ++ declared d ∷ []) ds) λ ds. fine

block_within : (Bs : Spelled) (earlier : List (List ℕ)) (B : Block Name Name) → Naming (resolve_block Bs earlier B)
unfolding resolve_block
block_within Bs earlier B =
    within-then (test B.name.place _ 6 (omega arith) (omega arith)) λ _. within-then (generics-within [] B.generics) λ G. within-then (declarations-within _ B.inputs) λ ins.
    within-then (declarations-within _ B.outputs) λ outs. within-then (declarations-within _ B.locals) λ vs. within-then (statements-within Bs _ [] B.body) λ b. fine

blocks-within : (Bs : Spelled) (earlier : List (List ℕ)) (rest : Spelled) → Naming (resolve_blocks Bs earlier rest)
unfolding resolve_blocks
blocks-within Bs earlier [] = fine
blocks-within Bs earlier (B ∷ rest) = within-then (block_within Bs earlier B) λ b. within-then (blocks-within Bs _ rest) λ r. fine

main-within : (len : ℕ) (Bs : Spelled) → Naming (main_of len Bs)
unfolding main_of
main-within len Bs = within-then (within-at len (within-nth 9 Bs _ (omega arith) (omega arith))) λ M. within-then (test M.name.place _ 9 (omega arith) (omega arith)) λ _. fine

pub names-within : (len : ℕ) (Bs : Spelled) → Within 6 9 (names len Bs)
unfolding names
names-within len Bs = within-then (blocks-within Bs [] Bs) λ b. within-then (main-within len Bs) λ m. fine
