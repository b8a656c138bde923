use Rattle.std.specs.Prelude.{eqb}
use Rattle.std.proofs.Common.{ap, ◌∙◌, rules}
use Rattle.std.specs.Iterator.Adapters.{take_while_callee, take_while_done}
use Rattle.std.proofs.lemmas.Iterator.{YieldsList-from_slice}
use Rattle.std.proofs.lemmas.Iterator.Search.{YieldsList-from_take_while}
use Rattle.std.proofs.lemmas.Iterator.Consumers.{count_from_yields_List, YieldsList-from_filter}
use Rattle.tape.specs.Layout.{kind_of}
use Rattle.tape.specs.Kinds.{code}
use Rattle.sweep.specs.Sweep.{in_call}
use Rattle.sweep.proofs.Laws.Counts.{given-is}
use Rattle.headings.proofs.arguments_given.Goals as goal

pub returns : goal.returns
returns c =
    count_from_yields_List _ c.count.result c.count.ensures.ran (YieldsList-from_filter _ (λ w. eqb (kind_of w) (code c.args.wanted)) (YieldsList-from_take_while _ (λ w. in_call (kind_of w)) (YieldsList-from_slice c.args.words.now (cc)) (ap take_while_callee c.filter.ensures.source ∙ c.take_while.ensures.closure) (ap take_while_done c.filter.ensures.source ∙ c.take_while.ensures.done) (λ x b q h. search rules)) c.filter.ensures.closure (λ x b q h. search rules))
    ∙ given-is (code c.args.wanted) c.args.words.now
