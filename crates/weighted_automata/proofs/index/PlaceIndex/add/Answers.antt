use Rattle.std.specs.Prelude.{Some}
use Rattle.weighted_automata.specs.private.Index.{source_of, empty_target}
use Rattle.weighted_automata.proofs.index.PlaceIndex.add.Goals as goal

pub returns-clause-cells : goal.returns-clause-cells
returns-clause-cells c = λ p had. record {
  of_source = c.push.ensures.cells (Some (source_of p)) had.of_source;
  of_state = c.push-2.ensures.cells (Some p.from) had.of_state;
  of_target = c.push-3.ensures.cells (empty_target p) had.of_target;
}

pub returns-clause-spaces : goal.returns-clause-spaces
returns-clause-spaces c = λ n had. record {
  sources = c.push.ensures.spaces n had.sources;
  states = c.push-2.ensures.spaces n had.states;
  empties = c.push-3.ensures.spaces n had.empties;
}
