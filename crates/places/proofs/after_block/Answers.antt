use Rattle.std.specs.Prelude.{◌≡◌, ℕ, ◌+◌, ◌<◌, List}
use Rattle.std.proofs.Common.{ap, ◌∙◌, arith}
use Rattle.rules.specs.Syntax.{Block, Callee}
use Rattle.unfold.specs.declared.Span.{Span}
use Rattle.unfold.specs.Header.{HereBlock, WrittenBlock, after_locals, body-room}
use Rattle.places.specs.Bodies.{FirstBody, body-first, block-next}
use Rattle.places.proofs.after_block.Goals as goal

module _ {t : List ℕ} {at end body : ℕ} (f : (b : ℕ) → FirstBody t (at + 1) b → body ≡ b) where
  -- where the body begins
  at_body : {B : Block ℕ Callee} → HereBlock t at end B → body ≡ after_locals at B
  at_body h = f _ (body-first h)

  at_room : WrittenBlock t at end → body < end
  at_room w = let h = w.here in omega (arith, at_body h, body-room h)

pub first_body-body-requires : goal.first_body-body-requires
first_body-body-requires c = record { body = _; first = body-first c.requires.here }

pub body_at-requires : goal.body_at-requires
body_at-requires c =
    let r = at_room c.first_body-body.ensures c.requires in
    (omega (arith, r, c.requires.here.limit), omega (arith, r, c.requires.here.short))

-- the end of its body is the place after the block
pub returns : goal.returns
returns c B h = ap (λ (s : Span). s.end) c.body_at.ensures ∙ block-next h (at_body c.first_body-body.ensures h)
