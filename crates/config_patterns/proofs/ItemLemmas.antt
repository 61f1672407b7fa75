-- Adding an item to a pattern.
use Rattle.std.proofs.Common.{◌≡◌, ℕ, suc, ◌+◌, ◌*◌, ◌<◌, ◌≤◌, Bool, true, false, List, [], ◌∷◌, ◌++◌, length, sym, ap, ap₂, ◌∙◌, subst, length-append, arith}
use Rattle.std.specs.Prelude.{if◌then◌else◌, None, Some, IsTrue, All, nat_le, nat_lt}
use Rattle.std.specs.List.{list_any}
use Rattle.std.proofs.lemmas.Bool.{false≢true, lt-leb, lt-ltb, le-ltb}
use Rattle.std.proofs.lemmas.Bool.Decides.{nat_tests}
use Rattle.std.proofs.lemmas.List.Elements.{All-push}
use Rattle.config_patterns.specs.declared.item.Item.{Item}
use Rattle.config_patterns.specs.declared.pattern.PatternFault.TheVariants.{NoSymbol, TooManyItems, TooManyEdges}
use Rattle.config_patterns.specs.Membership.{PatternValue}
use Rattle.config_patterns.specs.Edges.{edges_of, finals_of}
use Rattle.config_patterns.specs.Validity.{is_set, IsItem, IsPattern, AreCounts}
use Rattle.wpds_base.specs.Faults.{first_fault}
use Rattle.config_patterns.specs.Fault.{item_fault, IsAccepted}
use Rattle.config_patterns.specs.private.Counted.{IsCounted}
use Rattle.config_patterns.proofs.CountLemmas.{count_push, finals_push, finals_few}
use Rattle.config_patterns.proofs.SetLemmas.{none_outside}

abbrev with_item : List Item → List ℕ → Bool → List Item
with_item items set star = items ++ record { set = set; star = star } ∷ []

-- how many final states there are at most
pub few_finals : (p : PatternValue) (edges finals : ℕ) → IsPattern p → AreCounts p.items edges finals → finals ≤ 1001
few_finals p edges finals valid counts =
    let few = finals_few p.items in
    let is = counts.finals in
    let items = valid.few_items in
    omega arith

-- the count of edges with an item
pub counted : (p q : PatternValue) → p ≡ q → (edges finals : ℕ) → AreCounts p.items edges finals → (count : ℕ) (set : List ℕ) (star : Bool) → length set ≡ count
    → edges + count * (finals + (if star then 1 else 0)) ≡ length (edges_of (q.items ++ record { set = set; star = star } ∷ []))
counted p q same edges finals counts count set star size =
    ap (λ n. edges + n * (finals + (if star then 1 else 0))) (sym size)
    ∙ ap₂ (λ e f. e + length set * (f + (if star then 1 else 0))) counts.edges counts.finals
    ∙ sym (count_push (record { set = set; star = star }) p.items)
    ∙ ap (λ (v : PatternValue). length (edges_of (with_item v.items set star))) same

-- an item that passes each test is accepted
pub is_accepted : (p q : PatternValue) → p ≡ q → (edges finals : ℕ) → AreCounts p.items edges finals → (count : ℕ) (set : List ℕ) (star : Bool)
    → IsCounted count q.symbols set → length p.items < 1000 → edges + count * (finals + (if star then 1 else 0)) ≤ 1000000 → IsAccepted q set star
is_accepted p q same edges finals counts count set star of few within =
    let total = counted p q same edges finals counts count set star of.size in
    record {
      below = of.low;
      few_items = subst (λ (v : PatternValue). length v.items < 1000) same few;
      few_edges = omega arith;
    }

no_fault : (a b c : Bool) → a ≡ false → b ≡ false → c ≡ false → None ≡ first_fault ((a, NoSymbol) ∷ (b, TooManyItems) ∷ (c, TooManyEdges) ∷ [])
no_fault a b c x y z =
    sym (ap (λ t. first_fault ((t, NoSymbol) ∷ (b, TooManyItems) ∷ (c, TooManyEdges) ∷ [])) x
    ∙ ap (λ t. first_fault ((t, TooManyItems) ∷ (c, TooManyEdges) ∷ [])) y
    ∙ ap (λ t. first_fault ((t, TooManyEdges) ∷ [])) z)

last_fault : (a b c : Bool) → a ≡ false → b ≡ false → c ≡ true → Some TooManyEdges ≡ first_fault ((a, NoSymbol) ∷ (b, TooManyItems) ∷ (c, TooManyEdges) ∷ [])
last_fault a b c x y z =
    sym (ap (λ t. first_fault ((t, NoSymbol) ∷ (b, TooManyItems) ∷ (c, TooManyEdges) ∷ [])) x
    ∙ ap (λ t. first_fault ((t, TooManyItems) ∷ (c, TooManyEdges) ∷ [])) y
    ∙ ap (λ t. first_fault ((t, TooManyEdges) ∷ [])) z)

-- it has no fault
pub not_refused : (q : PatternValue) (set : List ℕ) (star : Bool) → IsAccepted q set star → None ≡ item_fault q set star
not_refused q set star accepted =
    no_fault (list_any (λ g. nat_le q.symbols g) set) (nat_le 1000 (length q.items)) (nat_lt 1000000 (length (edges_of (with_item q.items set star))))
    (none_outside q.symbols set accepted.below) (lt-leb 1000 (length q.items) accepted.few_items)
    (le-ltb 1000000 (length (edges_of (with_item q.items set star))) accepted.few_edges)

middle_fault : (a b c : Bool) → a ≡ false → b ≡ true → Some TooManyItems ≡ first_fault ((a, NoSymbol) ∷ (b, TooManyItems) ∷ (c, TooManyEdges) ∷ [])
middle_fault a b c x y =
    sym (ap (λ t. first_fault ((t, NoSymbol) ∷ (b, TooManyItems) ∷ (c, TooManyEdges) ∷ [])) x
    ∙ ap (λ t. first_fault ((t, TooManyItems) ∷ (c, TooManyEdges) ∷ [])) y)

-- one past the last has that fault
pub too_many_items : (p q : PatternValue) → p ≡ q → (set : List ℕ) (star : Bool) → All (λ g. g < q.symbols) set → 1000 ≤ length p.items → Some TooManyItems ≡ item_fault q set star
too_many_items p q same set star low many =
    let all : 1000 ≤ length q.items = subst (λ (v : PatternValue). 1000 ≤ length v.items) same many in
    let over : nat_le 1000 (length q.items) ≡ true = grind (arith, nat_tests) in
    middle_fault (list_any (λ g. nat_le q.symbols g) set) (nat_le 1000 (length q.items)) (nat_lt 1000000 (length (edges_of (with_item q.items set star))))
    (none_outside q.symbols set low) over

-- one with too many edges has that fault
pub too_many : (p q : PatternValue) → p ≡ q → (edges finals : ℕ) → AreCounts p.items edges finals → (count : ℕ) (set : List ℕ) (star : Bool)
    → IsCounted count q.symbols set → length p.items < 1000 → 1000000 < edges + count * (finals + (if star then 1 else 0)) → Some TooManyEdges ≡ item_fault q set star
too_many p q same edges finals counts count set star of few over =
    let total = counted p q same edges finals counts count set star of.size in
    last_fault (list_any (λ g. nat_le q.symbols g) set) (nat_le 1000 (length q.items)) (nat_lt 1000000 (length (edges_of (with_item q.items set star))))
    (none_outside q.symbols set of.low) (lt-leb 1000 (length q.items) (subst (λ (v : PatternValue). length v.items < 1000) same few))
    (lt-ltb 1000000 (length (edges_of (with_item q.items set star))) (omega arith))

-- the pattern `p`, seen as `q`, stays valid with one item more that is accepted
pub added : (p q : PatternValue) → p ≡ q → (edges finals n after : ℕ) (items : List Item) (set : List ℕ) (star : Bool) → IsPattern p → AreCounts p.items edges finals
    → IsTrue (is_set set) → IsAccepted q set star → n ≡ length (edges_of (with_item q.items set star)) → after ≡ (if star then finals + 1 else 1)
    → items ≡ with_item p.items set star → IsPattern (record { control = p.control; symbols = p.symbols; items = items }) × AreCounts items n after
added p q same edges finals n after items set star valid counts distinct accepted count is pushed =
    let all = with_item p.items set star in
    let x : Item = record { set = set; star = star } in
    let P : PatternValue → Type 0 = λ v. IsAccepted v set star in
    let Q : PatternValue → Type 0 = λ v. n ≡ length (edges_of (with_item v.items set star)) in
    let R : List Item → Type 0 = λ xs. IsPattern (record { control = p.control; symbols = p.symbols; items = xs }) × AreCounts xs n after in
    let ok = subst P (sym same) accepted in
    let one : finals + 1 ≡ suc (finals_of p.items) = let e = counts.finals in omega arith in
    subst R (sym pushed) (
      record {
        few_items = (let few = ok.few_items in omega (arith, length-append p.items (x ∷ [])));
        few_edges = ok.few_edges;
        items = All-push (IsItem p.symbols) p.items x valid.items (record { below = ok.below; distinct = distinct });
      },
      record {
        edges = subst Q (sym same) count;
        finals = is ∙ ap (λ m. if star then m else 1) one ∙ sym (finals_push x p.items);
      },
    )

pub if_then : (b : Bool) (m n r : ℕ) → b ≡ true → r ≡ m → r ≡ (if b then m else n)
if_then true m n r h is = is
if_then false m n r h is = absurd (false≢true h)

pub if_else : (b : Bool) (m n r : ℕ) → b ≡ false → r ≡ n → r ≡ (if b then m else n)
if_else true m n r h is = absurd (false≢true (sym h))
if_else false m n r h is = is
