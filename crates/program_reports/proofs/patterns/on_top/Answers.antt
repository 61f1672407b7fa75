use Rattle.std.proofs.Common.{◌≡◌, true, sym, subst, ◌∙◌}
use Rattle.std.specs.Prelude.{None}
use Rattle.std.specs.List.{range_with_len}
use Rattle.config_patterns.specs.Fault.{item_fault}
use Rattle.config_patterns.specs.Membership.{PatternValue}
use Rattle.program_reports.proofs.PatternLemmas.{all_accepted}
use Rattle.program_reports.proofs.patterns.on_top.Goals as goal

pub unrefused-requires : goal.unrefused-requires
unrefused-requires c =
    let accepted = all_accepted c.args.symbols c.args.symbol c.requires.few in
    c.add_all.ensures.refusal ∙ subst (λ (x : PatternValue). item_fault x (range_with_len 0 x.symbols) true ≡ None) (sym c.in_ok-pattern.ensures) accepted
