-- The job that a view of it shows, and what it changes.
use Rattle.std.specs.Prelude.{Option, option_map}
use Rattle.std.specs.Borrow.{Bor}
use Rattle.weighted_automata.specs.declared.transitions.Entry.{Entry}
use Rattle.saturation_laws.specs.declared.job.Job.{Job}
use Rattle.saturation_laws.specs.declared.view.JobView.{JobView}
use Rattle.saturation_laws.specs.Jobs.{node_of, named_rule, named_first}
use Rattle.saturation_laws.specs.States.{Change}

module _ {S W Map : Type 0} where
  abbrev pub seen_input : Option (Bor (Entry S W Map)) → Option (Entry S W Map)
  seen_input i = option_map (λ t. t.now) i

  abbrev pub seen : JobView S W Map → Job S W Map
  seen v = record { kind = v.kind; rule = v.rule; frame = v.frame; first = seen_input v.first; second = seen_input v.second; goal = v.goal }

  -- the change of a job that is worth this weight
  abbrev pub change_worth : Job S W Map → W → Change W
  change_worth j w = record { goal = j.goal; weight = w; rule = named_rule j; first = option_map node_of (named_first j); second = option_map node_of j.second }
