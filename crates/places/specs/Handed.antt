-- What resolving the names of a text leaves is what its unfolding takes. Assumes nothing.
use Rattle.std.specs.Prelude.{◌≡◌, ℕ, ◌+◌, List, ◌++◌, length, drop}
use Rattle.std.proofs.Common.{sym, ap, ◌∙◌, subst, arith, length-append, length-drop}
use Rattle.std.proofs.Math.Seq.{drop-append_seam}
use Rattle.rules.specs.Outcome.{ok}
use Rattle.rules.specs.Syntax.{Spelled, Program}
use Rattle.rules.specs.Grammar.{grammar}
use Rattle.rules.specs.Resolve.{names}
use Rattle.rules.specs.Flatten.{program}
use Rattle.rules.proofs.Laws.Outcomes.{bind_ok}
use Rattle.rules.proofs.Laws.Numbered.{numbered-text}
use Rattle.rules.proofs.Laws.Scoped.{names-scoped}
use Rattle.tape.specs.Resolved.{resolved_tape}
use Rattle.tape.specs.Written.{put_is}
use Rattle.tape.specs.Lies.{Lies, lies-front}
use Rattle.sweep.specs.Resolves.{Holds, Right}
use Rattle.sweep.proofs.Laws.Lengths.{tape-length}
use Rattle.places.specs.Held.{Held}

-- the text is this program
program-is : (s : List ℕ) (Bs : Spelled) (P : Program) → grammar s ≡ ok Bs → names (length s) Bs ≡ ok P → program s ≡ ok P
unfolding program
program-is s Bs P e n = bind_ok _ e n

module _ {s t u : List ℕ} {end m : ℕ} {Bs : Spelled} (h : Holds s t end Bs) (r : Right s Bs t u m) where
  size : end ≡ length (resolved_tape r.program)
  size = h.size ∙ sym (tape-length (length s) Bs r.named)

  -- the whole of the table: the program's words, and the rest as it was
  pub table : u ≡ resolved_tape r.program ++ drop end t
  table =
      let e : 0 + length (resolved_tape r.program) ≡ end = omega (arith, size) in
      r.tape ∙ put_is (resolved_tape r.program) t 0 (omega (arith, e, h.size, h.lies.fits)) ∙ ap (λ n. resolved_tape r.program ++ drop n t) e

  pub rest-kept : drop end u ≡ drop end t
  rest-kept = ap (drop end) table ∙ ap (λ n. drop n (resolved_tape r.program ++ drop end t)) size ∙ drop-append_seam (resolved_tape r.program) (drop end t)

  pub length-kept : length u ≡ length t
  length-kept = omega (arith, ap length table, length-append (resolved_tape r.program) (drop end t), length-drop end t, size, h.size, h.lies.fits)

  pub held : grammar s ≡ ok Bs → Held s u end r.program
  held e =
      let n = numbered-text s r.program (program-is s Bs r.program e r.named) in
      record {
        lies = subst (λ u. Lies u 0 (resolved_tape r.program)) (sym table) (lies-front (resolved_tape r.program) (drop end t));
        size = size;
        short = h.short;
        numbered = n.0;
        many = n.1;
        scoped = names-scoped (length s) Bs r.program r.named;
        few = h.few;
      }
