use Rattle.std.proofs.Common.{◌≡◌, ◌<◌, ℕ, ◌+◌, Bool, true, false, List, [], ◌∷◌, ◌++◌, length, set, refl, sym, ap, ◌∙◌, subst, arith}
use Rattle.std.specs.Prelude.{Some, None, IfSome, slice_get}
use Rattle.std.proofs.lemmas.Result.{on_ok_weaker}
use Rattle.weight_tables.proofs.LayerLemmas.{all_grown, worth_grown, layers_equal}
use Rattle.weight_tables.proofs.lowering.lower_by.Goals as goal

pub returns-in-Base-clause-known : goal.returns-in-Base-clause-known
returns-in-Base-clause-known g c = record { base = c.lower_place_by.ensures.known; target = all_grown c.lower_place_by.ensures.grows c.args.layers.now.target c.requires.layers.target; walk = all_grown c.lower_place_by.ensures.grows c.args.layers.now.walk c.requires.layers.walk }

pub returns-in-Base-clause-ok : goal.returns-in-Base-clause-ok
returns-in-Base-clause-ok g c = rw c.in-Base.is (on_ok_weaker c.lower_place_by.result (λ is. layers_equal _ _ is (worth_grown c.lower_place_by.ensures.grows c.args.layers.now.target c.requires.layers.target) (worth_grown c.lower_place_by.ensures.grows c.args.layers.now.walk c.requires.layers.walk)) c.lower_place_by.ensures.ok)

pub returns-in-Target-clause-known : goal.returns-in-Target-clause-known
returns-in-Target-clause-known g c = record { base = all_grown c.lower_place_by-in-Target.ensures.grows c.args.layers.now.base c.requires.layers.base; target = c.lower_place_by-in-Target.ensures.known; walk = all_grown c.lower_place_by-in-Target.ensures.grows c.args.layers.now.walk c.requires.layers.walk }

pub returns-in-Target-clause-ok : goal.returns-in-Target-clause-ok
returns-in-Target-clause-ok g c = rw c.in-Target.is (on_ok_weaker c.lower_place_by-in-Target.result (λ is. layers_equal _ _ (worth_grown c.lower_place_by-in-Target.ensures.grows c.args.layers.now.base c.requires.layers.base) is (worth_grown c.lower_place_by-in-Target.ensures.grows c.args.layers.now.walk c.requires.layers.walk)) c.lower_place_by-in-Target.ensures.ok)

pub returns-in-Walk-clause-known : goal.returns-in-Walk-clause-known
returns-in-Walk-clause-known g c = record { base = all_grown c.lower_place_by-in-Walk.ensures.grows c.args.layers.now.base c.requires.layers.base; target = all_grown c.lower_place_by-in-Walk.ensures.grows c.args.layers.now.target c.requires.layers.target; walk = c.lower_place_by-in-Walk.ensures.known }

pub returns-in-Walk-clause-ok : goal.returns-in-Walk-clause-ok
returns-in-Walk-clause-ok g c = rw c.in-Walk.is (on_ok_weaker c.lower_place_by-in-Walk.result (λ is. layers_equal _ _ (worth_grown c.lower_place_by-in-Walk.ensures.grows c.args.layers.now.base c.requires.layers.base) (worth_grown c.lower_place_by-in-Walk.ensures.grows c.args.layers.now.target c.requires.layers.target) is) c.lower_place_by-in-Walk.ensures.ok)
