use Rattle.std.specs.Prelude.{Some}
use Rattle.weighted_automata.specs.private.Index.{source_of, empty_target}
use Rattle.weighted_automata.proofs.index.PlaceIndex.reserve.Goals as goal

pub returns-in_err-reserve-clause-cells : goal.returns-in_err-reserve-clause-cells
returns-in_err-reserve-clause-cells c = λ p had. record {
  of_source = c.reserve.ensures.cells (Some (source_of p)) had.of_source;
  of_state = had.of_state;
  of_target = had.of_target;
}

pub returns-in_err-reserve-clause-spaces : goal.returns-in_err-reserve-clause-spaces
returns-in_err-reserve-clause-spaces c = λ n had. record {
  sources = c.reserve.ensures.spaces n had.sources;
  states = had.states;
  empties = had.empties;
}

pub returns-in_err-reserve-2-clause-cells : goal.returns-in_err-reserve-2-clause-cells
returns-in_err-reserve-2-clause-cells c = λ p had. record {
  of_source = c.reserve.ensures.cells (Some (source_of p)) had.of_source;
  of_state = c.reserve-2.ensures.cells (Some p.from) had.of_state;
  of_target = had.of_target;
}

pub returns-in_err-reserve-2-clause-spaces : goal.returns-in_err-reserve-2-clause-spaces
returns-in_err-reserve-2-clause-spaces c = λ n had. record {
  sources = c.reserve.ensures.spaces n had.sources;
  states = c.reserve-2.ensures.spaces n had.states;
  empties = had.empties;
}

pub returns-clause-cells : goal.returns-clause-cells
returns-clause-cells c = λ p had. record {
  of_source = c.reserve.ensures.cells (Some (source_of p)) had.of_source;
  of_state = c.reserve-2.ensures.cells (Some p.from) had.of_state;
  of_target = c.reserve-3.ensures.cells (empty_target p) had.of_target;
}

pub returns-clause-spaces : goal.returns-clause-spaces
returns-clause-spaces c = λ n had. record {
  sources = c.reserve.ensures.spaces n had.sources;
  states = c.reserve-2.ensures.spaces n had.states;
  empties = c.reserve-3.ensures.spaces n had.empties;
}
