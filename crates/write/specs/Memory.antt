-- Pieces written into lent memory. Assumes nothing.
use Rattle.std.specs.Prelude.{◌≡◌, refl, List, ℕ, ◌+◌, ◌<◌, length}
use Rattle.std.proofs.Common.{◌∙◌, arith, length-append}
use Rattle.write.specs.declared.Memory.{Memory}
use Rattle.write.specs.Put.{Put, put-none, put_then, put-size}
use Rattle.write.specs.Taken.{Laws}

-- the piece is put at the place, in the same memory
pub record Writes (s : Memory) (p : List ℕ) (t : Memory) : Type 0 where
  pub same : t.text.ghost_name ≡ s.text.ghost_name
  pub put : Put s.text.now s.at p t.at t.text.now

-- there is no room for the piece
abbrev pub full : Memory → List ℕ → Type 0
full s p = length s.text.now < s.at + length p

pub memory_laws : Laws Writes full
memory_laws = record {
  nothing = λ s. record { same = refl; put = put-none };
  then = λ s t u p q a b. record { same = b.same ∙ a.same; put = put_then a.put b.put };
  first = λ s p q h. omega (arith, h, length-append p q);
  later = λ s t p q a h. omega (arith, h, a.put.next, put-size a.put, length-append p q);
}
