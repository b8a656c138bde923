-- A block of a resolved text lies on the tape as the unfolding takes it. Assumes nothing.
use Rattle.std.specs.Prelude.{refl, ℕ, ◌+◌, ◌≤◌, ◌<◌, length}
use Rattle.std.proofs.Common.{arith}
use mathlib.Core.List.{List, [], ◌∷◌}
use Rattle.rules.specs.Syntax.{Name, Sort, wire, vector, num, Decl, Block, Callee}
use Rattle.rules.proofs.Laws.Spelt.{SpeltName, All, AllSort, AllDecl}
use Rattle.rules.proofs.Laws.Numbered.{Slot, CalleeOf, NumberedBlock}
use Rattle.tape.specs.Layout.{name_w}
use Rattle.tape.specs.Encoding.{block_w}
use Rattle.tape.specs.Resolved.{slot_w, meant_w}
use Rattle.tape.specs.Lies.{Lies}
use Rattle.values.specs.Factors.{grouped}
use Rattle.values.specs.Sizes.{GroupedSort}
use Rattle.frames.specs.Ports.{Declared}
use Rattle.unfold.specs.Header.{HereBlock, body-lies, body-room}
use Rattle.unfold.specs.Statements.{HereStmts}
use Rattle.unfold.specs.Shelf.{body_from, body_to}

module _ (s : List ℕ) (few : length s ≤ 16384) where
  name_below : (n : Name) → SpeltName s n → name_w n < 33554432
  unfolding name_w
  name_below n p = omega (arith, p.within, p.few)

  names-below : (ns : List Name) → All (SpeltName s) ns → All (λ n. name_w n < 33554432) ns
  unfolding All
  names-below [] p = tt
  names-below (n ∷ ns) p = (name_below n p.0, names-below ns p.1)

  grouped-sort : (t : Sort ℕ) → AllSort {C = Callee} Slot (CalleeOf (length s)) (length s) t → GroupedSort t
  unfolding AllSort
  grouped-sort wire p = tt
  grouped-sort (vector a b) p = (grouped (CalleeOf (length s)) (length s) 2 a p.0, grouped (CalleeOf (length s)) (length s) 2 b p.1)
  grouped-sort num p = tt

  declared : (k : ℕ) (ds : List (Decl ℕ)) → 11 ≤ k → k ≤ 13 → All (AllDecl {C = Callee} (SpeltName s) Slot (CalleeOf (length s)) (length s)) ds → All (Declared k) ds
  unfolding All
  declared k [] a b p = tt
  declared k (d ∷ ds) a b p =
      let n = p.0.name in
      (record { low = a; high = b; name = name_below d.name n; letters = omega (arith, n.few); sort = grouped-sort d.sort p.0.sort }, declared k ds a b p.1)

  module _ {t : List ℕ} {at end : ℕ} {B : Block ℕ Callee} (p : NumberedBlock s B) where
    pub here-block : Lies t at (block_w slot_w meant_w B) → at + length (block_w slot_w meant_w B) ≤ end → end ≤ length t → end ≤ 16384 → HereBlock t at end B
    here-block l within limit short = record {
      lies = l;
      within = within;
      limit = limit;
      short = omega arith;
      generics = names-below B.generics p.names.generics;
      inputs = declared 11 B.inputs (omega arith) (omega arith) p.names.inputs;
      outputs = declared 12 B.outputs (omega arith) (omega arith) p.names.outputs;
      locals = declared 13 B.locals (omega arith) (omega arith) p.names.locals;
      few = p.few;
    }

    pub here-body : HereBlock t at end B → HereStmts (length s) t (body_from at B) (body_to at B) B.body
    here-body h = record {
      lies = body-lies h;
      ends = refl;
      limit = omega (arith, body-room h, h.limit);
      short = omega (arith, body-room h, h.short);
      sound = p.names.body;
      text = few;
    }
