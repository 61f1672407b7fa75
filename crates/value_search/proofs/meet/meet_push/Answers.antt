use Rattle.std.proofs.Common.{subst}
use Rattle.std.specs.Prelude.{option_map}
use Rattle.value_search.specs.Views.{found, place_at}
use Rattle.value_search.specs.Finds.{IsAt}
use Rattle.value_search.proofs.meet.meet_push.Goals as goal

pub meet_seconds-requires-clause-at : goal.meet_seconds-requires-clause-at
meet_seconds-requires-clause-at g c =
    let at = c.args.at in
    subst (λ o. IsAt (found (option_map (λ t. t.now) o) c.args.tables.now) at.number (place_at at.from at.symbol at.to)) c.in-None.is c.requires.at

pub meet_edges-requires-clause-at : goal.meet_edges-requires-clause-at
meet_edges-requires-clause-at g c =
    let at = c.args.at in
    subst (λ o. IsAt (found (option_map (λ t. t.now) o) c.args.tables.now) at.number (place_at at.from at.symbol at.to)) c.in-Some.is c.requires.at
