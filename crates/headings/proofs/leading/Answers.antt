use Rattle.std.specs.Prelude.{eqb}
use Rattle.std.proofs.Common.{◌∙◌, rules}
use Rattle.std.proofs.lemmas.Iterator.{YieldsList-from_slice}
use Rattle.std.proofs.lemmas.Iterator.Search.{YieldsList-from_take_while}
use Rattle.std.proofs.lemmas.Iterator.Consumers.{count_from_yields_List}
use Rattle.tape.specs.Layout.{kind_of}
use Rattle.tape.specs.Kinds.{code}
use Rattle.sweep.proofs.Laws.Counts.{leading-is}
use Rattle.headings.proofs.leading.Goals as goal

pub returns-clause-counts : goal.returns-clause-counts
returns-clause-counts c =
    count_from_yields_List _ c.count.result c.count.ensures.ran (YieldsList-from_take_while _ (λ w. eqb (kind_of w) (code c.args.kind)) (YieldsList-from_slice c.args.words.now (cc)) c.take_while.ensures.closure c.take_while.ensures.done (λ x b q h. search rules))
    ∙ leading-is (code c.args.kind) c.args.words.now
