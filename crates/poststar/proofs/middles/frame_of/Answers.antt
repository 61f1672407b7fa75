use Rattle.std.proofs.Common.{◌∙◌}
use Rattle.poststar.proofs.RowLemmas.{frame_by, frame_none}
use Rattle.poststar.proofs.middles.frame_of.Goals as goal

pub returns-then-state-base : goal.returns-then-state-base
returns-then-state-base g c = frame_none c.args.base c.args.state c.args.system.now.rules c.if-state-base.true

pub returns : goal.returns
returns g c = c.push_rule.ensures ∙ frame_by c.args.base c.args.state c.args.system.now.rules c.if-state-base.false
