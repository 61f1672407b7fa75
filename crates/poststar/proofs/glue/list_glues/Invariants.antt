use Rattle.std.proofs.Common.{◌++◌, length, map}
use Rattle.weighted_automata.specs.declared.transitions.Entry.{Entry}
use Rattle.pushdown_rules.proofs.CallerLemmas.{by_number}
use Rattle.direction_parts.proofs.CallerLemmas.{IsPass, to_go}
use Rattle.poststar_laws.specs.Jobs.{glue_jobs}
use Rattle.poststar.specs.private.Meetings.{may_glue}
use Rattle.poststar.proofs.glue.list_glues.Given as goal

abbrev pub invariant-partners : goal.invariant-partners
invariant-partners g l =
    let f = λ (u : Entry g.row.S.Denot g.row.S-W.Denot g.row.S-Ret.Denot). map (g.K.Draw.made l.system) (glue_jobs l.taken u) in
    let ts = l.transitions.transitions in
    IsPass (may_glue l.taken.place) (λ _ u. f u) ts (l.initial.into.items ++ by_number (λ _ u. f u) 0 ts) l.into.items l.at

abbrev pub decreases-partners : goal.decreases-partners
decreases-partners g l = to_go (length l.transitions.transitions) l.at
