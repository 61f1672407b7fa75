-- Worked documents that are accepted, each computed: what they are, and how they are written.
use Rattle.std.proofs.Common.{◌≡◌, ℕ, List, [], ◌∷◌, ◌++◌, refl, Some, None, true, false}
use Rattle.std.specs.Prelude.{codes, flat_map, Ok, Err}
use Rattle.std.specs.Fmt.{digits}
use Rattle.truth_tables.specs.Formulas.{Constant, Variable, Opposite}
use Rattle.document_forms.specs.declared.weight.WeightsLine.TheVariants.{Cost, Relation}
use Rattle.document_forms.specs.declared.weight.ValueText.TheVariants.{Is}
use Rattle.document_forms.specs.declared.weight.Action.TheVariants.{Assign}
use Rattle.document_forms.specs.declared.weight.WeightText.TheVariants.{One, Number, Actions}
use Rattle.document_forms.specs.declared.pattern.SetText.TheVariants.{Listed}
use Rattle.document_forms.specs.declared.pattern.ItemText.{ItemText}
use Rattle.document_forms.specs.declared.language.Language.TheVariants.{System, Program}
use Rattle.document_forms.specs.Documents.{read_as}
use Rattle.document_forms.specs.Languages.{language_of}
use Rattle.document_forms.specs.Writing.{written}

-- a header and lines, a line feed behind each
abbrev text : List (List ℕ) → List ℕ
text ls = flat_map (λ l. l ++ 10 ∷ []) (codes "wpds 1" ∷ ls)

-- what is written of what is read
abbrev again : List ℕ → List ℕ
again bytes = elim (read_as bytes) [ Ok d ↦ written d | Err r ↦ [] ]

-- an item that is one symbol without a star
abbrev symbol : ℕ → ItemText
symbol g = record { set = Listed (g ∷ []); star = false }

-- ---- the worked rows, written as they are read

abbrev least_cost : List ℕ
least_cost =
    text (
    codes "weights cost 100" ∷ codes "controls p q" ∷ codes "symbols a b"
    ∷ codes "rule p a -> p b a : 2" ∷ codes "rule p b -> q : 1" ∷ codes "query p: a => q: a"
    ∷ []
    )

least_cost-again : again least_cost ≡ least_cost
unfolding digits
least_cost-again = refl

least_cost-is : read_as least_cost ≡ Ok (record {
  weights = Cost 100;
  controls = codes "p" ∷ codes "q" ∷ [];
  symbols = codes "a" ∷ codes "b" ∷ [];
  items = [];
  rules =
      record {
        control = 0;
        symbol = 0;
        to = 0;
        right = 1 ∷ 0 ∷ [];
        weight = Number 2;
        map = None;
      }
      ∷ record { control = 0; symbol = 1; to = 1; right = []; weight = Number 1; map = None }
      ∷ [];
  queries = record {
    from = record { control = 0; items = symbol 0 ∷ [] };
    to = record { control = 1; items = symbol 0 ∷ [] };
  } ∷ [];
})
least_cost-is = refl

abbrev two_queries : List ℕ
two_queries =
    text (
    codes "weights cost 100" ∷ codes "controls p" ∷ codes "symbols a"
    ∷ codes "rule p a -> p a a : 1" ∷ codes "rule p a -> p : 0"
    ∷ codes "query p: a => p: a a a" ∷ codes "query p: a => p:" ∷ []
    )

two_queries-again : again two_queries ≡ two_queries
unfolding digits
two_queries-again = refl

abbrev stars : List ℕ
stars =
    text (
    codes "weights cost 100" ∷ codes "controls p" ∷ codes "symbols a"
    ∷ codes "rule p a -> p a a : 1" ∷ codes "rule p a -> p : 0"
    ∷ codes "query p: a {a}* => p: {a}*" ∷ codes "query p: a => p: a a a {a}*" ∷ []
    )

stars-again : again stars ≡ stars
unfolding digits
stars-again = refl

abbrev capped : List ℕ
capped =
    text (
    codes "weights cost 5" ∷ codes "controls p" ∷ codes "symbols a b c"
    ∷ codes "rule p a -> p b : 3" ∷ codes "rule p b -> p c : 3" ∷ codes "query p: a => p: c"
    ∷ []
    )

capped-again : again capped ≡ capped
unfolding digits
capped-again = refl

abbrev reached : List ℕ
reached =
    text (
    codes "weights reach" ∷ codes "controls p q" ∷ codes "symbols a b"
    ∷ codes "rule p b -> q" ∷ codes "query p: a => q: a" ∷ codes "query p: b => q:" ∷ []
    )

reached-again : again reached ≡ reached
unfolding digits
reached-again = refl

abbrev copied : List ℕ
copied =
    text (
    codes "weights copy" ∷ codes "controls p" ∷ codes "symbols a b c d e"
    ∷ codes "variables x y" ∷ codes "rule p a -> p b : x=1" ∷ codes "rule p b -> p c : y=x"
    ∷ codes "rule p a -> p d : y=x" ∷ codes "rule p d -> p e : x=1"
    ∷ codes "query p: a => p: c" ∷ codes "query p: a => p: e" ∷ []
    )

copied-again : again copied ≡ copied
unfolding digits
copied-again = refl

abbrev restored : List ℕ
restored =
    text (
    codes "weights copy" ∷ codes "controls p" ∷ codes "symbols a f b c" ∷ codes "variables x"
    ∷ codes "rule p a -> p f b return restore x" ∷ codes "rule p a -> p f c"
    ∷ codes "rule p f -> p : x=7" ∷ codes "query p: a => p: b" ∷ codes "query p: a => p: c"
    ∷ []
    )

restored-again : again restored ≡ restored
unfolding digits
restored-again = refl

abbrev unmatched : List ℕ
unmatched =
    text (
    codes "weights copy" ∷ codes "controls p" ∷ codes "symbols a b c" ∷ codes "variables x y"
    ∷ codes "rule p c -> p a b return restore x" ∷ codes "rule p a -> p : x=1"
    ∷ codes "rule p b -> p : y=2" ∷ codes "query p: a b => p:" ∷ codes "query p: c => p:"
    ∷ []
    )

unmatched-again : again unmatched ≡ unmatched
unfolding digits
unmatched-again = refl

abbrev pushed : List ℕ
pushed =
    text (
    codes "weights copy" ∷ codes "controls p" ∷ codes "symbols a f b" ∷ codes "variables x"
    ∷ codes "rule p a -> p f b : x=3 return restore x" ∷ codes "rule p f -> p : x=7"
    ∷ codes "query p: a => p: f b" ∷ codes "query p: a => p: b" ∷ []
    )

pushed-again : again pushed ≡ pushed
unfolding digits
pushed-again = refl

abbrev many_facts : List ℕ
many_facts =
    text (
    codes "weights genkill" ∷ codes "controls p" ∷ codes "symbols a b c"
    ∷ codes "facts f0 f1 f2 f3 f4 f5 f6 f7 f8 f9 f10 f11 f12 f13 f14 f15 f16 f17 f18 f19 f20 f21 f22 f23 f24 f25 f26 f27 f28 f29 f30 f31 f32 f33 f34 f35 f36 f37 f38 f39 f40 f41 f42 f43 f44 f45 f46 f47 f48 f49 f50 f51 f52 f53 f54 f55 f56 f57 f58 f59 f60 f61 f62 f63 f64"
    ∷ codes "rule p a -> p b : +f64" ∷ codes "rule p b -> p c : -f0"
    ∷ codes "query p: a => p: c" ∷ []
    )

many_facts-again : again many_facts ≡ many_facts
unfolding digits
many_facts-again = refl

-- ---- written otherwise than they are read, and then read as the same

abbrev assumed : List ℕ
assumed =
    text (
    codes "weights relation" ∷ codes "controls p" ∷ codes "symbols a b c"
    ∷ codes "variables x" ∷ codes "rule p a -> p b : assume x"
    ∷ codes "rule p b -> p c : assume !x" ∷ codes "query p: a => p: c"
    ∷ codes "query p: a => p: b" ∷ []
    )

abbrev assumed_written : List ℕ
assumed_written =
    text (
    codes "weights relation" ∷ codes "controls p" ∷ codes "symbols a b c"
    ∷ codes "variables x" ∷ codes "rule p a -> p b : assume x"
    ∷ codes "rule p b -> p c : assume ! x" ∷ codes "query p: a => p: c"
    ∷ codes "query p: a => p: b" ∷ []
    )

assumed-again : again assumed ≡ assumed_written
unfolding digits
assumed-again = refl

assumed-same : read_as assumed_written ≡ read_as assumed
assumed-same = refl

abbrev moved : List ℕ
moved =
    text (
    codes "weights relation" ∷ codes "controls p" ∷ codes "symbols a f b"
    ∷ codes "variables g l r" ∷ codes "rule p a -> p f b return restore r move l=r"
    ∷ codes "rule p f -> p : g, r := !g, 1" ∷ codes "query p: a => p: b" ∷ []
    )

abbrev moved_written : List ℕ
moved_written =
    text (
    codes "weights relation" ∷ codes "controls p" ∷ codes "symbols a f b"
    ∷ codes "variables g l r" ∷ codes "rule p a -> p f b return restore r move l=r"
    ∷ codes "rule p f -> p : g, r := ! g, 1" ∷ codes "query p: a => p: b" ∷ []
    )

moved-again : again moved ≡ moved_written
unfolding digits
moved-again = refl

moved-same : read_as moved_written ≡ read_as moved
moved-same = refl

moved-is : read_as moved ≡ Ok (record {
  weights = Relation;
  controls = codes "p" ∷ [];
  symbols = codes "a" ∷ codes "f" ∷ codes "b" ∷ [];
  items = codes "g" ∷ codes "l" ∷ codes "r" ∷ [];
  rules =
      record {
        control = 0;
        symbol = 0;
        to = 0;
        right = 1 ∷ 2 ∷ [];
        weight = One;
        map = Some (record { restore = 2 ∷ []; moves = record { to = 1; from = 2 } ∷ [] });
      }
      ∷ record {
        control = 0;
        symbol = 1;
        to = 0;
        right = [];
        map = None;
        weight = Actions (Assign (
            record { variable = 0; value = Is (Opposite (Variable 0)) }
            ∷ record { variable = 2; value = Is (Constant true) } ∷ []
            ) ∷ []);
      }
      ∷ [];
  queries = record {
    from = record { control = 0; items = symbol 0 ∷ [] };
    to = record { control = 0; items = symbol 2 ∷ [] };
  } ∷ [];
})
moved-is = refl

abbrev tabled : List ℕ
tabled =
    text (
    codes "weights relation" ∷ codes "controls p" ∷ codes "symbols a b"
    ∷ codes "variables x y" ∷ codes "rule p a -> p b : assume tab2 8 (x, y)"
    ∷ codes "query p: a => p: b" ∷ []
    )

abbrev tabled_written : List ℕ
tabled_written =
    text (
    codes "weights relation" ∷ codes "controls p" ∷ codes "symbols a b"
    ∷ codes "variables x y" ∷ codes "rule p a -> p b : assume tab2 8 ( x, y )"
    ∷ codes "query p: a => p: b" ∷ []
    )

tabled-again : again tabled ≡ tabled_written
unfolding digits
tabled-again = refl

tabled-same : read_as tabled_written ≡ read_as tabled
tabled-same = refl

abbrev operators : List ℕ
operators =
    text (
    codes "weights relation" ∷ codes "variables x y" ∷ codes "controls p" ∷ codes "symbols a"
    ∷ codes "rule p a->p:assume x => y => 0;choose y x;x,y:=*,tab3 202(x,(y|1),x = y != x ^ 0)"
    ∷ codes "query p: =>p:" ∷ []
    )

abbrev operators_written : List ℕ
operators_written =
    text (
    codes "weights relation" ∷ codes "controls p" ∷ codes "symbols a" ∷ codes "variables x y"
    ∷ codes "rule p a -> p : assume tab2 11 ( x, tab2 11 ( y, 0 ) ) ; choose y x ; x, y := *, tab3 202 ( x, tab2 14 ( y, 1 ), tab2 6 ( tab2 9 ( x, y ), tab2 6 ( x, 0 ) ) )"
    ∷ codes "query p: => p:" ∷ []
    )

operators-again : again operators ≡ operators_written
unfolding digits
operators-again = refl

operators-same : read_as operators_written ≡ read_as operators
operators-same = refl

abbrev loose : List ℕ
loose =
    text (
    codes "weights copy" ∷ codes "variables x y z" ∷ codes "controls p q"
    ∷ codes "symbols a b" ∷ codes "query p :. * => q:{a b}"
    ∷ codes "rule p a->q : x = - 5 , y,z y=undef z=1,2"
    ∷ codes "rule p b -> q b a :one return plain" ∷ codes "symbols c"
    ∷ codes "rule p c -> p : x=z, 4 ,y,4" ∷ []
    )

abbrev loose_written : List ℕ
loose_written =
    text (
    codes "weights copy" ∷ codes "controls p q" ∷ codes "symbols a b c"
    ∷ codes "variables x y z" ∷ codes "rule p a -> q : x=-5, y, z y=undef z=?"
    ∷ codes "rule p b -> q b a" ∷ codes "rule p c -> p : x=4, y, z"
    ∷ codes "query p: .* => q: {a b}" ∷ []
    )

loose-again : again loose ≡ loose_written
unfolding digits
loose-again = refl

loose-same : read_as loose_written ≡ read_as loose
loose-same = refl

abbrev negative_zero : List ℕ
negative_zero =
    text (
    codes "weights copy" ∷ codes "variables x" ∷ codes "controls p" ∷ codes "symbols a"
    ∷ codes "rule p a -> p : x=-0" ∷ codes "query p: {a} => p:" ∷ []
    )

abbrev negative_zero_written : List ℕ
negative_zero_written =
    text (
    codes "weights copy" ∷ codes "controls p" ∷ codes "symbols a" ∷ codes "variables x"
    ∷ codes "rule p a -> p : x=0" ∷ codes "query p: a => p:" ∷ []
    )

negative_zero-again : again negative_zero ≡ negative_zero_written
unfolding digits
negative_zero-again = refl

negative_zero-same : read_as negative_zero_written ≡ read_as negative_zero
negative_zero-same = refl

-- ---- languages

a_system : language_of (codes "# x" ++ 10 ∷ codes "  wpds 1") ≡ Some System
a_system = refl

a_program : language_of (codes "bool 1" ++ 13 ∷ 10 ∷ []) ≡ Some Program
a_program = refl

-- a byte that no token begins with
header_with_a_byte : language_of (codes "wpds 1" ++ 7 ∷ []) ≡ None
header_with_a_byte = refl

later_version : language_of (codes "wpds 2") ≡ None
later_version = refl

no_line : language_of (codes "# wpds 1" ++ 10 ∷ []) ≡ None
no_line = refl
