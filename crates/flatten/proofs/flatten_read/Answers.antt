use Rattle.std.proofs.Common.{ap, ◌∙◌, sym}
use Rattle.rules.specs.Flatten.{answer}
use Rattle.flatten.specs.Ways.{refused-is, named-wrong, named-right, main-held}
use Rattle.std.proofs.lemmas.Result.{err_from_is_err_and}
use Rattle.flatten.proofs.flatten_read.Goals as goal

pub returns-in_err-main : goal.returns-in_err-main
returns-in_err-main c Bs g h =
    let p = err_from_is_err_and c.from_residual.result c.from_residual.ensures.1 in
    rw (p.1, p.2) (refused-is _ _ c.requires.1 (named-wrong _ Bs _ _ c.in_err-main.was (c.resolve.ensures Bs h)))

pub flatten_named-requires : goal.flatten_named-requires
flatten_named-requires c =
    let r = c.requires.0 in
    (main-held (named-right _ c.in_ok-main.was r.reads r.holds (c.resolve.ensures _ r.holds)), c.requires.1, c.requires.2)

pub returns : goal.returns
returns c Bs g h =
    let n = named-right _ c.in_ok-main.was g h (c.resolve.ensures Bs h) in
    c.flatten_named.ensures _ _ n.held n.main ∙ ap (answer _) (sym n.is)
