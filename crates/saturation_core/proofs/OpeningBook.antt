-- A book at its opening.
use Rattle.std.proofs.Common.{◌≡◌, ℕ, suc, zero, List, [], ◌∷◌, refl, sym, ap, ◌∙◌, arith}
use Rattle.std.specs.Prelude.{Option, None, Some, IsTrue, replicate}
use Rattle.semiring_laws.specs.Semiring.{Operations, IsSemiring}
use Rattle.weighted_automata.specs.declared.place.Place.{Place}
use Rattle.weighted_automata.specs.declared.transitions.Entry.{Entry}
use Rattle.witness_graph.specs.declared.node.Node.{Node}
use Rattle.witness_graph.specs.declared.node.Node.TheVariants.{Start}
use Rattle.witness_graph.specs.declared.node.Side.{Side}
use Rattle.pushdown_rules.specs.Pushdown.{Pushdown, IsSystem}
use Rattle.saturation_laws.specs.declared.event.Event.{Event}
use Rattle.saturation_laws.specs.declared.holding.Holding.{Holding}
use Rattle.saturation_laws.specs.declared.opening.Opening.{Opening}
use Rattle.saturation_laws.specs.States.{CoreState, apply_all, replay}
use Rattle.saturation_laws.specs.Openings.{pops, with_edges, opening_state}
use Rattle.saturation_laws.specs.Books.{BookValue, opened_by, IsBook}
use Rattle.saturation_core.specs.Seats.{hands_out}
use Rattle.saturation_core.specs.declared.found.Found.{Found}
use Rattle.saturation_core.specs.private.Steps.{with_hands, Becomes}
use Rattle.saturation_laws.proofs.CallerLemmas.{book_from}
use Rattle.saturation_laws.specs.Ways.{Way, IsLawful}

hands_out-none : (S W Map : Type 0) (n : ℕ) → hands_out {S = S} {W = W} {Map = Map} (replicate n None) ≡ 0
hands_out-none S W Map zero = refl
hands_out-none S W Map (suc n) = omega (arith, hands_out-none S W Map n)

module _ {S W Map : Type 0} where
  pub no_hand_out : (hs : List (Option (Holding S W Map))) → hs ≡ replicate 64 None → hands_out hs ≡ 0
  no_hand_out hs none = ap hands_out none ∙ hands_out-none S W Map 64

  -- the edges, and then what the side adds, make the opening state
  pub filled : (s z : Operations W Map) (p : Pushdown S W Map) (edges es : List Place) (side named : Side) (bare edged popped : Found S W Map) (hands : List (Option (Holding S W Map)))
      → z ≡ s → es ≡ edges → named ≡ side → bare.transitions.transitions ≡ [] → bare.graph.nodes ≡ Start ∷ [] → bare.transitions.queue ≡ []
      → Becomes bare (with_edges z es) edged → Becomes edged (apply_all s (pops side p.rules)) popped → hands ≡ replicate 64 None
      → with_hands popped hands ≡ opening_state s named p edges
  filled s z p edges es side named bare edged popped hands same these way none start none_q by_edges by_pops no_hands =
      let st : List (Entry S W Map) → List Node → List Place → CoreState S W Map = λ ts ns q. record { transitions = ts; nodes = ns; queue = q; hands = replicate 64 None } in
      ap (with_hands popped) no_hands ∙ by_pops (replicate 64 None)
      ∙ ap (apply_all s (pops side p.rules)) (by_edges (replicate 64 None)
      ∙ ap (λ o. with_edges o es (with_hands bare (replicate 64 None))) same
      ∙ ap (λ xs. with_edges s xs (with_hands bare (replicate 64 None))) these
      ∙ ap (λ ts. with_edges s edges (st ts bare.graph.nodes bare.transitions.queue)) none
      ∙ ap (λ ns. with_edges s edges (st [] ns bare.transitions.queue)) start
      ∙ ap (λ q. with_edges s edges (st [] (Start ∷ []) q)) none_q)
      ∙ ap (λ i. apply_all s (pops i p.rules) (with_edges s edges (st [] (Start ∷ []) []))) (sym way)

-- the parts of a book that was just begun
abbrev pub begin : {S W Map D : Type 0} → Pushdown S W Map → D → Opening → CoreState S W Map → List Event → BookValue S W Map D
begin p d o st es = record { system = p; direction = d; opening = o; state = st; journal = es }

pub begin_is : {S W Map D : Type 0} (p : Pushdown S W Map) (d : D) (o : Opening) (st new : CoreState S W Map) (es : List Event) → st ≡ new → es ≡ [] → begin p d o st es ≡ begin p d o new []
begin_is p d o st new es opened empty = ap (λ i. begin p d o i es) opened ∙ ap (begin p d o new) empty

module _ {S W Map D : Type 0} (operations : S → Operations W Map) (laws : (x : S) → IsSemiring (operations x)) (way : Way S W Map D)
    (direction : IsLawful operations way) where
  -- the opening state without events is a book
  pub begun : (b : BookValue S W Map D) → IsSystem operations b.system → IsTrue (way.fits_opening b.direction b.system b.opening) → b.state ≡ opened_by operations way b → b.journal ≡ []
      → IsBook operations way b
  begun b system fits opened empty =
      book_from operations laws way direction b system fits
      (ap (replay (operations b.system.semiring) (way.tables b.direction b.system) (opened_by operations way b)) empty ∙ ap Some (sym opened))
