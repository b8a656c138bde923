use Rattle.std.proofs.Common.{rules}
use Rattle.sweep.proofs.Laws.Gather.{main-missing, main-generic, main-plain}
use Rattle.names.proofs.main_block.Goals as goal

pub returns-in_default : goal.returns-in_default
returns-in_default c = main-missing c.args.blocks.now.text.now c.args.blocks.now.headings.words.now c.args.blocks.now.headings.firsts.now c.args.blocks.now.titles.now c.in_default.ensures

pub returns-then-has_generics : goal.returns-then-has_generics
returns-then-has_generics c = rw c.refusal.ensures (main-generic c.args.blocks.now.text.now c.args.blocks.now.headings.words.now c.args.blocks.now.headings.firsts.now c.args.blocks.now.titles.now c.in-Some.ensures c.has_generics.result (search rules) c.if-has_generics.true)

pub returns : goal.returns
returns c = main-plain c.args.blocks.now.text.now c.args.blocks.now.headings.words.now c.args.blocks.now.headings.firsts.now c.args.blocks.now.titles.now c.in-Some.ensures c.has_generics.result (search rules) c.if-has_generics.false
