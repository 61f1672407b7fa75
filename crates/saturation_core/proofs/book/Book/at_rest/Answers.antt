use Rattle.std.proofs.Common.{◌≡◌, true, false, refl, sym, ap, ◌∙◌}
use Rattle.saturation_laws.specs.States.{hand_at}
use Rattle.saturation_laws.specs.Books.{BookValue}
use Rattle.saturation_core.specs.Seats.{seat_bits}
use Rattle.saturation_core.proofs.book.Book.at_rest.Goals as goal

pub returns-clause-taken : goal.returns-clause-taken
returns-clause-taken g c = λ k. (
  c.requires,
  λ free.
      let none = c.none_out.ensures.1 (λ seat. ap (hand_at seat) c.deref.ensures.value ∙ ap (λ (b : BookValue _ _ _ _). hand_at seat b.state.hands) c.self.view_is ∙ free seat) in
      let e : true ≡ false = sym none ∙ c.if-none_out.false in
      cc,
  c.seats_out.ensures ∙ ap seat_bits (c.deref-2.ensures.value ∙ ap (λ (b : BookValue _ _ _ _). b.state.hands) c.self.view_is),
  refl,
)
