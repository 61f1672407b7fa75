use Rattle.std.proofs.Common.{ap, ◌∙◌}
use Rattle.poststar_laws.specs.Jobs.{kind_jobs}
use Rattle.poststar.specs.private.Passes.{kind_of}
use Rattle.poststar.proofs.RowLemmas.{pops_are}
use Rattle.poststar.proofs.jobs.list_pops.Goals as goal

pub returns : goal.returns
returns g c =
    let t = c.args.taken.now in
    let p = c.args.system.now in
    let h = g.K.Draw.made p in
    let same = ap (λ pass. kind_jobs c.args.base p (kind_of pass) t) c.pops_of-pass.ensures ∙ pops_are c.args.base p t c.args.frame c.requires.frame in
    rw same at c.list_rules.ensures
