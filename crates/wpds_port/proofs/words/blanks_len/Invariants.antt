use Rattle.std.proofs.Common.{◌≡◌, IsTrue, take}
use Rattle.std.specs.List.{list_all}
use Rattle.wpds_port.specs.Tokens.{is_blank}
use Rattle.wpds_port.proofs.words.blanks_len.Given as goal

abbrev pub invariant-loop-b : goal.invariant-loop-b
invariant-loop-b l = record {
  same : l.n ≡ l.b-index;
  blanks : IsTrue (list_all is_blank (take l.n l.text));
}
