use Rattle.std.specs.Prelude.{◌≡◌, ◌++◌, length, drop, Ok, Err}
use Rattle.std.proofs.Common.{refl, arith, length-take}
use Rattle.std.proofs.lemmas.Result.{err_from_is_err_and}
use Rattle.sweep.proofs.Laws.Whole.{gathered-rows, titles-fit, titles-taken, titles-few, names-wrong, names-right, tape-there}
use Rattle.names.proofs.resolve.Goals as goal

pub slice_bounds-titles-end : goal.slice_bounds-titles-end
slice_bounds-titles-end c = titles-fit c.args.text.now c.args.tape.now c.args.end c.gather_heads.ensures c.gather_firsts.ensures c.gather_titles-count.ensures.0 c.gather_titles-count.ensures.1 c.requires

pub slice_bounds-blocks-end : goal.slice_bounds-blocks-end
slice_bounds-blocks-end c = titles-taken c.args.text.now c.args.tape.now c.args.end c.gather_heads.ensures c.gather_firsts.ensures c.gather_titles-count.ensures.0 c.gather_titles-count.ensures.1 c.requires

pub invariant_of-headings : goal.invariant_of-headings
invariant_of-headings c = record { rows = gathered-rows c.args.text.now c.args.tape.now c.args.end c.gather_heads.ensures c.gather_firsts.ensures c.gather_titles-count.ensures.0 c.gather_titles-count.ensures.1 c.requires }

pub invariant_of-blocks : goal.invariant_of-blocks
invariant_of-blocks c = record { few = titles-few c.args.text.now c.args.tape.now c.args.end c.gather_heads.ensures c.gather_firsts.ensures c.gather_titles-count.ensures.0 c.gather_titles-count.ensures.1 c.requires }

pub returns-in_err-sweep_words : goal.returns-in_err-sweep_words
returns-in_err-sweep_words c =
    let p = err_from_is_err_and c.from_residual.result c.from_residual.ensures.1 in
    λ Bs holds. rw (p.1, p.2) (names-wrong c.args.text.now c.args.tape.now c.args.end c.gather_heads.ensures c.gather_firsts.ensures c.gather_titles-count.ensures.0 c.gather_titles-count.ensures.1 c.sweep_words.new.tape (Err c.in_err-sweep_words.field-0.0) c.in_err-sweep_words.ensures refl (c.sweep_words.new.tape ++ drop c.args.end c.args.tape.now) Bs holds)

pub returns : goal.returns
returns c =
    let l : length c.sweep_words.new.tape ≡ c.args.end = omega (arith, length-take c.args.end c.args.tape.now, tape-there c.args.text.now c.args.tape.now c.args.end c.requires, c.sweep_words.auto.tape) in
    λ Bs holds. names-right c.args.text.now c.args.tape.now c.args.end c.gather_heads.ensures c.gather_firsts.ensures c.gather_titles-count.ensures.0 c.gather_titles-count.ensures.1 c.sweep_words.new.tape (Ok tt) c.in_ok-sweep_words.ensures refl l (c.sweep_words.new.tape ++ drop c.args.end c.args.tape.now) refl c.main_block.result c.main_block.ensures Bs holds
