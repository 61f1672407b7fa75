use Rattle.run_settings.proofs.MomentLemmas.{are_moments}
use Rattle.run_settings.proofs.laws.settings_are_moments.Goals as goal

pub returns : goal.returns
returns g c = λ semiring n relates slots rules calls z later lead.
    are_moments (g.S.Semiring.operations semiring) n relates slots rules calls z later lead
