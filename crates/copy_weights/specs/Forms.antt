-- Forms of variables: constants and copies of old values, their meet, and substitution.
use Rattle.std.specs.Prelude.{ℕ, ◌<◌, All, IsTrue, zero, suc, ◌%◌, ◌^◌, ℤ, Bool, true, nat_eq, nat_lt, List, [], ◌∷◌, Option, None, Some, slice_index_or, bit_or, if◌then◌else◌}
use Rattle.std.specs.Int.{bit_at}
use Rattle.std.specs.List.{list_any}
use Rattle.std.specs.Ordering.{int_eq}
use Rattle.copy_weights.specs.declared.form.Form.{Form}
use Rattle.copy_weights.specs.declared.form.Form.TheVariants.{Varying, Meet}

-- the constant of two, unless they differ
abbrev pub joined : Option ℤ → Option ℤ → Option (Option ℤ)
joined None d = Some d
joined (Some x) None = Some (Some x)
joined (Some x) (Some y) = if int_eq x y then Some (Some x) else None

-- a form of these sources, varying if there is no one constant
abbrev pub with_constant : ℕ → Option (Option ℤ) → Form
with_constant s None = Varying
with_constant s (Some c) = Meet c s

-- varying if one is or if the constants differ; otherwise the constant that is there and all sources
abbrev pub meet : Form → Form → Form
meet Varying g = Varying
meet (Meet c s) Varying = Varying
meet (Meet c s) (Meet d t) = with_constant (bit_or s t) (joined c d)

-- no constant and no source
abbrev pub undefined : Form
undefined = Meet None 0

-- variable k itself
abbrev pub itself : ℕ → Form
itself k = Meet None (2 ^ k)

-- whether variable i is in a set, its bit
unfoldable pub has : ℕ → ℕ → Bool
has s i = nat_eq (bit_at s i) 1

-- the meet of f over the members of a set below k
unfoldable pub meet_over : ℕ → (ℕ → Form) → ℕ → Form
meet_over zero f s = undefined
meet_over (suc k) f s = if has s k then meet (f k) (meet_over k f s) else meet_over k f s

-- a form with f put in for its sources among n variables
abbrev pub put : ℕ → (ℕ → Form) → Form → Form
put n f Varying = Varying
put n f (Meet c s) = meet (Meet c 0) (meet_over n f s)

-- ---- lists of forms, one for each variable

-- f 0, f 1, .. of the first n
unfoldable pub tabulate : ℕ → (ℕ → Form) → List Form
tabulate zero f = []
tabulate (suc n) f = f 0 ∷ tabulate n (λ i. f (suc i))

-- the form of variable k
unfoldable pub form : List Form → ℕ → Form
form forms k = slice_index_or forms k Varying

-- each variable itself
abbrev pub identity : ℕ → List Form
identity n = tabulate n itself

-- the meet, variable by variable
abbrev pub meets : ℕ → List Form → List Form → List Form
meets n fs gs = tabulate n (λ k. meet (form fs k) (form gs k))

-- the second's forms with the first's put in for their variables
abbrev pub composed : ℕ → List Form → List Form → List Form
composed n fs gs = tabulate n (λ k. put n (form fs) (form gs k))

-- the forms, but these variables are themselves
abbrev pub restored : ℕ → ℕ → List Form → List Form
restored n vars fs = tabulate n (λ k. if has vars k then itself k else form fs k)

-- ---- changes

-- the sources are below n
abbrev pub form_fits : ℕ → Form → Bool
form_fits n Varying = true
form_fits n (Meet c s) = nat_lt s (2 ^ n)

-- a form without its sources from n on
abbrev pub over : ℕ → Form → Form
over n Varying = Varying
over n (Meet c s) = Meet c (s % 2 ^ n)

-- the form of a variable by its first change, or else itself
abbrev pub changed : List (ℕ × Form) → ℕ → Form
changed [] k = itself k
changed (c ∷ cs) k = if nat_eq c.0 k then c.1 else changed cs k

-- Each of n variables changed, by forms over them. What is said of other variables is left out.
abbrev pub changes_of : ℕ → List (ℕ × Form) → List Form
changes_of n cs = tabulate n (λ k. over n (changed cs k))

-- changes of variables below n, by forms over n variables
abbrev pub AreChanges : ℕ → List (ℕ × Form) → Type 0
AreChanges n cs = All (λ c. (c.0 < n) × IsTrue (form_fits n c.1)) cs

-- ---- sets of variables

abbrev pub is_listed : List ℕ → ℕ → Bool
is_listed ks k = list_any (λ j. nat_eq j k) ks

-- the set of the numbers below n that pass a test
unfoldable pub set_below : ℕ → (ℕ → Bool) → ℕ
set_below zero test = 0
set_below (suc k) test = if test k then bit_or (2 ^ k) (set_below k test) else set_below k test

-- the set of the listed variables, without those from n on
abbrev pub set_of : ℕ → List ℕ → ℕ
set_of n ks = set_below n (is_listed ks)
