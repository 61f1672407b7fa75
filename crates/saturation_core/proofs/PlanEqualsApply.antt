-- The lowerings of a plan, one after another.
use Rattle.std.proofs.Common.{◌≡◌, ℕ, suc, ◌+◌, ◌≤◌, List, [], ◌∷◌, ◌++◌, length, ap, ◌∙◌, subst, arith}
use Rattle.std.specs.Prelude.{IsTrue}
use Rattle.std.proofs.lemmas.List.{length_push}
use Rattle.weighted_automata.specs.declared.place.Place.{Place}
use Rattle.weighted_automata.specs.Places.{has_place}
use Rattle.saturation_core.specs.declared.found.Found.{Found}
use Rattle.saturation_core.specs.declared.plan.Planned.{Planned}
use Rattle.saturation_core.specs.private.Plans.{AreNodesFrom}
use Rattle.saturation_core.specs.private.Steps.{HasRoomFor}
use Rattle.saturation_core.proofs.PutPlan.{room_first, room_rest}

module _ {S W Map : Type 0} where
  -- The lowerings that are left have room, and their nodes may stand next. `all` is how many there were, on the first.
  pub record IsUnderWay (ls : List (Planned S W Map)) (all : ℕ) (now first : Found S W Map) : Type 0 where
    pub nodes : AreNodesFrom (length now.graph.nodes) ls
    pub room : HasRoomFor ls now
    pub same_side : now.graph.side ≡ first.graph.side
    pub count : first.transitions.spare + length ls ≤ now.transitions.spare + all

  module _ (l : Planned S W Map) (ls : List (Planned S W Map)) (all : ℕ) (now first : Found S W Map) (is : IsUnderWay (l ∷ ls) all now first) where
    pub next_place : IsTrue (has_place l.goal now.transitions.room)
    next_place = room_first now.transitions.room l ls is.room.places

    pub step_on : (new : Found S W Map) → ((x : Place) → IsTrue (has_place x now.transitions.room) → IsTrue (has_place x new.transitions.room)) → new.graph.nodes ≡ now.graph.nodes ++ l.node ∷ []
        → now.graph.spare ≤ new.graph.spare + 1 → new.graph.side ≡ now.graph.side → now.transitions.spare ≤ new.transitions.spare + 1
        → now.transitions.marks ≤ new.transitions.marks + 1
        → IsUnderWay ls all new first
    step_on new keeps added spare way more marks =
        let P : ℕ → Type 0 = λ k. AreNodesFrom k ls in
        let e : suc (length now.graph.nodes) ≡ length new.graph.nodes = omega (arith, ap length added, length_push now.graph.nodes l.node) in
        record {
          nodes = subst P e is.nodes.1;
          room = record {
            places = room_rest now.transitions.room new.transitions.room l ls is.room.places keeps;
            spare = omega (arith, is.room.spare, spare);
            queue = omega (arith, is.room.queue, more);
            marks = omega (arith, is.room.marks, marks);
          };
          same_side = way ∙ is.same_side;
          count = omega (arith, is.count, more);
        }

  pub with_front : (old ls : List (Planned S W Map)) (l : Planned S W Map) (all : ℕ) (now first : Found S W Map) → old ≡ l ∷ ls → IsUnderWay old all now first → IsUnderWay (l ∷ ls) all now first
  with_front old ls l all now first items = let P : List (Planned S W Map) → Type 0 = λ ms. IsUnderWay ms all now first in λ is. subst P items is
