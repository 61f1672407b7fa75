-- Equations of tests, each by all its cases.
use Rattle.std.proofs.Common.{◌≡◌, Bool, true, false, refl, sym}
use Rattle.std.specs.Prelude.{◌||◌, ◌&&◌, not, if◌then◌else◌}
use Rattle.std.proofs.lemmas.Bool.{and_parts, false≢true}

-- Tests that were decided by their first part.
pub or_then : (a b c : Bool) → a ≡ true → c ≡ true → c ≡ (a || b)
or_then true b c h is = is
or_then false b c h is = absurd (false≢true h)

pub or_else : (a b c : Bool) → a ≡ false → c ≡ b → c ≡ (a || b)
or_else true b c h is = absurd (false≢true (sym h))
or_else false b c h is = is

pub and_then : (a b c : Bool) → a ≡ true → c ≡ b → c ≡ (a && b)
and_then true b c h is = is
and_then false b c h is = absurd (false≢true h)

pub and_else : (a b c : Bool) → a ≡ false → c ≡ false → c ≡ (a && b)
and_else true b c h is = absurd (false≢true (sym h))
and_else false b c h is = is

-- Tests over so many variables that hold in all cases.
abbrev all₁ : (Bool → Bool) → Bool
all₁ f = f true && f false

abbrev all₂ : (Bool → Bool → Bool) → Bool
all₂ f = all₁ (λ a. all₁ (f a))

abbrev all₃ : (Bool → Bool → Bool → Bool) → Bool
all₃ f = all₁ (λ a. all₂ (f a))

abbrev all₄ : (Bool → Bool → Bool → Bool → Bool) → Bool
all₄ f = all₁ (λ a. all₃ (f a))

abbrev all₅ : (Bool → Bool → Bool → Bool → Bool → Bool) → Bool
all₅ f = all₁ (λ a. all₄ (f a))

abbrev all₆ : (Bool → Bool → Bool → Bool → Bool → Bool → Bool) → Bool
all₆ f = all₁ (λ a. all₅ (f a))

abbrev all₇ : (Bool → Bool → Bool → Bool → Bool → Bool → Bool → Bool) → Bool
all₇ f = all₁ (λ a. all₆ (f a))

at₁ : (f : Bool → Bool) → all₁ f ≡ true → (a : Bool) → f a ≡ true
at₁ f h true = (and_parts (f true) (f false) h).0
at₁ f h false = (and_parts (f true) (f false) h).1

at₂ : (f : Bool → Bool → Bool) → all₂ f ≡ true → (a b : Bool) → f a b ≡ true
at₂ f h a b = at₁ (f a) (at₁ (λ x. all₁ (f x)) h a) b

at₃ : (f : Bool → Bool → Bool → Bool) → all₃ f ≡ true → (a b c : Bool) → f a b c ≡ true
at₃ f h a b c = at₂ (f a) (at₁ (λ x. all₂ (f x)) h a) b c

at₄ : (f : Bool → Bool → Bool → Bool → Bool) → all₄ f ≡ true → (a b c d : Bool) → f a b c d ≡ true
at₄ f h a b c d = at₃ (f a) (at₁ (λ x. all₃ (f x)) h a) b c d

at₅ : (f : Bool → Bool → Bool → Bool → Bool → Bool) → all₅ f ≡ true → (a b c d e : Bool) → f a b c d e ≡ true
at₅ f h a b c d e = at₄ (f a) (at₁ (λ x. all₄ (f x)) h a) b c d e

at₆ : (f : Bool → Bool → Bool → Bool → Bool → Bool → Bool) → all₆ f ≡ true → (a b c d e g : Bool) → f a b c d e g ≡ true
at₆ f h a b c d e g = at₅ (f a) (at₁ (λ x. all₅ (f x)) h a) b c d e g

at₇ : (f : Bool → Bool → Bool → Bool → Bool → Bool → Bool → Bool) → all₇ f ≡ true → (a b c d e g i : Bool) → f a b c d e g i ≡ true
at₇ f h a b c d e g i = at₆ (f a) (at₁ (λ x. all₆ (f x)) h a) b c d e g i

abbrev all₈ : (Bool → Bool → Bool → Bool → Bool → Bool → Bool → Bool → Bool) → Bool
all₈ f = all₁ (λ a. all₇ (f a))

at₈ : (f : Bool → Bool → Bool → Bool → Bool → Bool → Bool → Bool → Bool) → all₈ f ≡ true → (a b c d e g i j : Bool) → f a b c d e g i j ≡ true
at₈ f h a b c d e g i j = at₇ (f a) (at₁ (λ x. all₇ (f x)) h a) b c d e g i j

abbrev same : Bool → Bool → Bool
same a b = if a then b else not b

same_is : (a b : Bool) → same a b ≡ true → a ≡ b
same_is true true h = refl
same_is true false h = absurd (false≢true h)
same_is false true h = absurd (false≢true h)
same_is false false h = refl

pub and_false : (a : Bool) → (a && false) ≡ false
and_false a = same_is _ _ (at₁ (λ a. same (a && false) false) refl a)

pub or_false : (a : Bool) → (a || false) ≡ a
or_false a = same_is _ _ (at₁ (λ a. same (a || false) a) refl a)

-- one more symbol of a set
pub one_more : (at here among on : Bool) → ((at && (here && on)) || (at && (among && on))) ≡ (at && ((here || among) && on))
one_more a b c d = same_is _ _ (at₄ (λ at here among on. same ((at && (here && on)) || (at && (among && on))) (at && ((here || among) && on))) refl a b c d)

-- an edge, or a skip
pub skip_or_take : (at takes rest : Bool) → ((at && takes) || (at && rest)) ≡ (at && (rest || takes))
skip_or_take a b c = same_is _ _ (at₃ (λ at takes rest. same ((at && takes) || (at && rest)) (at && (rest || takes))) refl a b c)

-- no symbol is left to take
pub last_place : (ended skipped here : Bool) → ended ≡ ((ended || (skipped && false)) || (here && false))
last_place a b c = same_is _ _ (at₃ (λ ended skipped here. same ended ((ended || (skipped && false)) || (here && false))) refl a b c)

-- One place of a walk over a symbol: `entered` and `skipped` say how it was reached, `here` that it was one before the symbol.
pub place_step : (star entered skipped here among stays one next goes later : Bool)
    → (((entered || (((here || skipped) && among) && star)) && (if star then stays else one))
    || ((((((here || skipped) && among) && not star) && next) || (((here || skipped) && star) && goes)) || later))
    ≡ (((entered && (if star then stays else one)) || (skipped && (if star then goes || (among && stays) else among && next)))
    || ((here && (if star then goes || (among && stays) else among && next)) || later))
place_step true a b c d e o f g h = same_is _ _ (at₈ (λ entered skipped here among stays next goes later. same
    (((entered || (((here || skipped) && among) && true)) && stays) || ((((((here || skipped) && among) && false) && next) || (((here || skipped) && true) && goes)) || later))
    (((entered && stays) || (skipped && (goes || (among && stays)))) || ((here && (goes || (among && stays))) || later))) refl a b c d e f g h)
place_step false a b c d e o f g h = same_is _ _ (at₈ (λ entered skipped here among one next goes later. same
    (((entered || (((here || skipped) && among) && false)) && one) || ((((((here || skipped) && among) && true) && next) || (((here || skipped) && false) && goes)) || later))
    (((entered && one) || (skipped && (among && next))) || ((here && (among && next)) || later))) refl a b c d o f g h)

-- one place of a walk to the end
pub end_step : (star reached here ended later : Bool)
    → ((reached && (if star then ended else false)) || ((here && (if star then ended else false)) || later)) ≡ ((((reached || here) && star) && ended) || later)
end_step a b c d e = same_is _ _ (at₅ (λ star reached here ended later. same
    ((reached && (if star then ended else false)) || ((here && (if star then ended else false)) || later))
    ((((reached || here) && star) && ended) || later)) refl a b c d e)
