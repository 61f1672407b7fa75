use Rattle.std.proofs.Common.{◌++◌, ◌<◌, length, map, ℕ, sym, ap, ◌∙◌, subst}
use Rattle.std.specs.Prelude.{Option}
use Rattle.std.proofs.lemmas.Option.{slice_get_within}
use Rattle.weighted_automata.specs.declared.transitions.Entry.{Entry}
use Rattle.direction_parts.proofs.CallerLemmas.{made_by_each, pass_starts, pass_at, pass_here, pass_goes_on, pass_ends, less_to_go, to_go}
use Rattle.poststar_laws.specs.Jobs.{glue_jobs}
use Rattle.poststar.specs.private.Meetings.{may_glue}
use Rattle.poststar.proofs.RowLemmas.{glue_only}
use Rattle.poststar.proofs.glue.list_glues.Goals as goal

pub partners-init : goal.partners-init
partners-init g c =
    let t = c.args.taken.now in
    let ts = c.args.transitions.now.transitions in
    let h = g.K.Draw.made c.args.system.now in
    let f = λ (u : Entry g.row.S.Denot g.row.S-W.Denot g.row.S-Ret.Denot). map h (glue_jobs t u) in
    let p = may_glue t.place in
    pass_starts p (λ _ u. f u) ts c.args.into.now.items c.first_glued-at.result c.first_glued-at.ensures

pub entry-requires : goal.entry-requires
entry-requires g c =
    let t = c.args.taken.now in
    let ts = c.args.transitions.now.transitions in
    let h = g.K.Draw.made c.args.system.now in
    let f = λ (u : Entry g.row.S.Denot g.row.S-W.Denot g.row.S-Ret.Denot). map h (glue_jobs t u) in
    let p = may_glue t.place in
    let found = pass_at p (λ _ u. f u) ts _ c.partners.into.items c.partners.at c.partners.invariant c.in-Some.i c.in-Some.is in
    slice_get_within ts c.in-Some.i found.item found.there

pub partners-preserved : goal.partners-preserved
partners-preserved g c =
    let t = c.args.taken.now in
    let ts = c.args.transitions.now.transitions in
    let h = g.K.Draw.made c.args.system.now in
    let f = λ (u : Entry g.row.S.Denot g.row.S-W.Denot g.row.S-Ret.Denot). map h (glue_jobs t u) in
    let p = may_glue t.place in
    let here = pass_here p (λ _ u. f u) ts _ c.partners.into.items c.partners.at c.partners.invariant c.in-Some.i c.in-Some.is in
    pass_goes_on p (λ _ u. f u) ts _ c.partners.into.items c.partners.at c.partners.invariant (λ n u e. ap (map h) (glue_only t u e)) c.in-Some.i c.entry.result.now _ c.next_glued-at.result c.in-Some.is c.entry.ensures.entry
    c.in_ok-list_glue.ensures (c.next_glued-at.ensures here)

pub partners-smaller : goal.partners-smaller
partners-smaller g c =
    let t = c.args.taken.now in
    let ts = c.args.transitions.now.transitions in
    let h = g.K.Draw.made c.args.system.now in
    let f = λ (u : Entry g.row.S.Denot g.row.S-W.Denot g.row.S-Ret.Denot). map h (glue_jobs t u) in
    let p = may_glue t.place in
    let here = pass_here p (λ _ u. f u) ts _ c.partners.into.items c.partners.at c.partners.invariant c.in-Some.i c.in-Some.is in
    let P : Option ℕ → Type 0 = λ o. to_go (length ts) c.next_glued-at.result < to_go (length ts) o in
    subst P (sym c.in-Some.is) (less_to_go p ts c.in-Some.i c.next_glued-at.result (slice_get_within ts c.in-Some.i c.entry.result.now c.entry.ensures.entry) (c.next_glued-at.ensures here))

pub returns : goal.returns
returns g c =
    let t = c.args.taken.now in
    let ts = c.args.transitions.now.transitions in
    let h = g.K.Draw.made c.args.system.now in
    let f = λ (u : Entry g.row.S.Denot g.row.S-W.Denot g.row.S-Ret.Denot). map h (glue_jobs t u) in
    let p = may_glue t.place in
    pass_ends p (λ _ u. f u) ts _ c.partners.into.items c.partners.at c.partners.invariant (λ n u e. ap (map h) (glue_only t u e)) c.in_default.is
    ∙ ap (λ ys. c.args.into.now.items ++ ys) (sym (made_by_each h (glue_jobs t) 0 ts))
