use Rattle.std.proofs.Common.{◌≡◌, List, ◌++◌, length, map}
use Rattle.std.specs.Prelude.{IfSome}
use Rattle.document_forms.specs.FirstRefusal.{Counted, counted}
use Rattle.document_reader.specs.private.Readings.{HasRead, above_now, symbols_with}
use Rattle.rule_reader.specs.RuleReads.{HasFewItems}
use Rattle.document_reader.proofs.reading.read_body.Given as goal

-- Each list of lines that the reading had at first is now one that it has, and those behind are
-- what is left. There are no more items than the weights have. The symbols so far and those of the lines
-- that are left are as many as at first, and what is known is their number.
abbrev pub invariant-loop-line : goal.invariant-loop-line
invariant-loop-line l =
    let all = symbols_with l.fn.reading.scope.symbols l.fn.lines.lines in
    record {
      read : (ls : List Counted) → HasRead all ls l.fn.reading
          → (done : List Counted) × HasRead all done l.reading
          × (done ++ map counted l.lines.lines ≡ ls ++ map counted l.fn.lines.lines);
      few : HasFewItems (above_now l.reading);
      all : symbols_with l.reading.scope.symbols l.lines.lines ≡ all;
      known : IfSome l.known (λ n. n ≡ symbols_with l.reading.scope.symbols l.lines.lines);
      after : l.lines.after ≡ l.fn.lines.after;
    }

abbrev pub decreases-loop-line : goal.decreases-loop-line
decreases-loop-line l = length l.lines.lines
