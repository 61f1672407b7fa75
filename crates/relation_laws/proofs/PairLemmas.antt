-- Relations as sets of pairs, and their laws.
use Rattle.std.proofs.Common.{◌≡◌, ◌≢◌, ℕ, ◌+◌, ◌*◌, ◌<◌, ◌↔◌, Bool, true, false, ◌&&◌, ◌||◌, List, [], ◌∷◌, refl, sym, ap, ap₂, ◌∙◌, subst, inl, inr, arith}
use Rattle.std.specs.Prelude.{IsTrue, nat_eq}
use Rattle.std.proofs.lemmas.Bool.{and_parts, and_from, or_cases, or_left, or_right, eqb-true, eq-eqb}
use Rattle.diagram_store.specs.declared.branch.Branch.{Branch}
use Rattle.diagram_store.specs.Nodes.{HasVariablesBelow}
use Rattle.diagram_store.specs.Canonical.{IsCanonical}
use Rattle.diagram_store.proofs.CallerLemmas.{reads_below}
use Rattle.diagram_ops.specs.Relations.{of_states}
use Rattle.diagram_ops.proofs.CallerLemmas.{same_bits}
use Rattle.relation_laws.specs.Building.{Parts, same_node, same_nodes, same_parts, none_set, diagram_of}
use Rattle.relation_laws.specs.States.{old_state, new_state, same_bit, AgreeBelow, each_below}
use Rattle.relation_laws.specs.Relations.{Pairs, ReadsPairs, leads, relation_of, no_pairs, identity, union, composition, returned}
use Rattle.relation_laws.proofs.BuildingLemmas.{window, window_agrees, diagram_canonical, diagram_below, diagram_value, is_diagram_of, parts_same, same_node_is, same_node_itself}
use Rattle.relation_laws.proofs.StateLemmas.{same_truth, same_bit_is, same_bit_itself, agree_same, agree_sym, each_same, each_gives, each_from, some_gives, some_of, some_same, states_of_bits, old_of_states, new_of_states, states_agree}

-- ---- equal parts

nodes_are : (a b : List Branch) → IsTrue (same_nodes a b) → a ≡ b
nodes_are [] [] h = refl
nodes_are [] (n ∷ ns) h = cc
nodes_are (m ∷ ms) [] h = cc
nodes_are (m ∷ ms) (n ∷ ns) h =
    let parts = and_parts (same_node m n) (same_nodes ms ns) h in
    ap₂ (λ k ks. k ∷ ks) (same_node_is m n parts.0) (nodes_are ms ns parts.1)

nodes_itself : (a : List Branch) → IsTrue (same_nodes a a)
nodes_itself [] = refl
nodes_itself (m ∷ ms) = and_from (same_node m m) (same_nodes ms ms) (same_node_itself m m refl) (nodes_itself ms)

pub parts_are : (a b : Parts) → IsTrue (same_parts a b) → a ≡ b
parts_are a b h =
    let parts = and_parts (nat_eq a.root b.root) (same_nodes a.nodes b.nodes) h in
    parts_same a b (eqb-true a.root b.root parts.0) (nodes_are a.nodes b.nodes parts.1)

pub parts_itself : (a : Parts) → IsTrue (same_parts a a)
parts_itself a = and_from (nat_eq a.root a.root) (same_nodes a.nodes a.nodes) (eq-eqb a.root a.root refl) (nodes_itself a.nodes)

pub parts_equal : (a b : Parts) → IsTrue (same_parts a b) ↔ (a ≡ b)
parts_equal a b = (parts_are a b, λ e. let P : Parts → Type 0 = λ c. IsTrue (same_parts a c) in subst P e (parts_itself a))

-- ---- pairs that read the first n bits alone

-- a source of returned bits
abbrev pub ReadsSource : ℕ → (ℕ → (ℕ → Bool) → (ℕ → Bool) → Bool) → Type 0
ReadsSource n source = (v : ℕ) → v < n → (x z x' z' : ℕ → Bool) → AgreeBelow n x x' → AgreeBelow n z z' → source v x z ≡ source v x' z'

pub none_reads : (n : ℕ) → ReadsPairs n no_pairs
none_reads n x y x' y' a b = refl

pub identity_reads : (n : ℕ) → ReadsPairs n (identity n)
identity_reads n x y x' y' a b = each_same n (λ k. same_bit (x k) (y k)) (λ k. same_bit (x' k) (y' k)) (λ k below. ap₂ same_bit (a k below) (b k below))

pub union_reads : (n : ℕ) (a b : Pairs) → ReadsPairs n a → ReadsPairs n b → ReadsPairs n (union a b)
union_reads n a b ra rb x y x' y' h k = ap₂ (λ s t. s || t) (ra x y x' y' h k) (rb x y x' y' h k)

pub composition_reads : (n : ℕ) (a b : Pairs) → ReadsPairs n a → ReadsPairs n b → ReadsPairs n (composition n a b)
composition_reads n a b ra rb x y x' y' h k =
    some_same n (λ m. a x m && b m y) (λ m. a x' m && b m y') (λ m. ap₂ (λ s t. s && t) (ra x m x' m h (agree_same n m)) (rb m y m y' (agree_same n m) k))

pub composition_gives : (n : ℕ) (a b : Pairs) (x z : ℕ → Bool) → IsTrue (composition n a b x z) → (m : ℕ → Bool) × IsTrue (a x m) × IsTrue (b m z)
composition_gives n a b x z h =
    let s = some_gives n 0 (λ m. a x m && b m z) h in
    let parts = and_parts (a x s.0) (b s.0 z) s.1 in
    (s.0, parts.0, parts.1)

pub composition_from : (n : ℕ) (a b : Pairs) → ReadsPairs n a → ReadsPairs n b → (x m z : ℕ → Bool) → IsTrue (a x m) → IsTrue (b m z) → IsTrue (composition n a b x z)
composition_from n a b ra rb x m z h k =
    some_of n (λ y. a x y && b y z) (λ y y' agree. ap₂ (λ s t. s && t) (ra x y x y' (agree_same n x) agree) (rb y z y' z agree (agree_same n z))) m (and_from (a x m) (b m z) h k)

pub returned_reads : (n : ℕ) (source : ℕ → (ℕ → Bool) → (ℕ → Bool) → Bool) (a : Pairs) → ReadsSource n source → ReadsPairs n a → ReadsPairs n (returned n source a)
returned_reads n source a rs ra x y x' y' h k =
    some_same n (λ z. a x z && each_below n (λ v. same_bit (y v) (source v x z))) (λ z. a x' z && each_below n (λ v. same_bit (y' v) (source v x' z))) (λ z.
    ap₂ (λ s t. s && t) (ra x z x' z h (agree_same n z))
    (each_same n (λ v. same_bit (y v) (source v x z)) (λ v. same_bit (y' v) (source v x' z)) (λ v below. ap₂ same_bit (k v below) (rs v below x z x' z h (agree_same n z)))))

-- ---- the diagram of pairs

pub pairs_same : (n : ℕ) (a b : Pairs) → ((x y : ℕ → Bool) → a x y ≡ b x y) → relation_of n a ≡ relation_of n b
pairs_same n a b same = let e : a ≡ b = λ i x y. same x y i in ap (relation_of n) e

pub relation_canonical : (n : ℕ) (a : Pairs) → IsCanonical (relation_of n a).root (relation_of n a).nodes
unfolding relation_of
relation_canonical n a = diagram_canonical (2 * n) (λ bits. a (old_state bits) (new_state bits))

pub relation_below : (n : ℕ) (a : Pairs) → HasVariablesBelow (2 * n) (relation_of n a).nodes
unfolding relation_of
relation_below n a = diagram_below (2 * n) (λ bits. a (old_state bits) (new_state bits))

pub leads_of : (n : ℕ) (a : Pairs) → ReadsPairs n a → (x y : ℕ → Bool) → leads (relation_of n a) x y ≡ a x y
unfolding relation_of
leads_of n a reads x y =
    let w : ℕ → Bool = window 0 (2 * n) (of_states x y) in
    let same = window_agrees (2 * n) (of_states x y) in
    diagram_value (2 * n) (λ bits. a (old_state bits) (new_state bits)) (of_states x y)
    ∙ reads (old_state w) (new_state w) x y (λ k b. same (2 * k) (omega arith) ∙ old_of_states x y k) (λ k b. same (2 * k + 1) (omega arith) ∙ new_of_states x y k)

-- a canonical diagram that has the pairs is theirs
pub is_relation_of : (n : ℕ) (w : Parts) → IsCanonical w.root w.nodes → HasVariablesBelow (2 * n) w.nodes → (a : Pairs) → ((x y : ℕ → Bool) → leads w x y ≡ a x y) → w ≡ relation_of n a
unfolding relation_of
is_relation_of n w canonical below a means =
    let is = is_diagram_of (2 * n) w.root w.nodes canonical below (λ bits. a (old_state bits) (new_state bits)) (λ bits.
    same_bits w.nodes canonical.reduced w.root bits (of_states (old_state bits) (new_state bits)) (λ v. sym (states_of_bits bits v)) ∙ means (old_state bits) (new_state bits)) in
    parts_same w (diagram_of (2 * n) (λ bits. a (old_state bits) (new_state bits))) is.0 is.1

-- a diagram that is canonical, over the first n bits
abbrev pub FitsIn : ℕ → Parts → Type 0
FitsIn n w = relation_of n (leads w) ≡ w

pub fits_canonical : (n : ℕ) (w : Parts) → FitsIn n w → IsCanonical w.root w.nodes
fits_canonical n w fit = let P : Parts → Type 0 = λ v. IsCanonical v.root v.nodes in subst P fit (relation_canonical n (leads w))

pub fits_below : (n : ℕ) (w : Parts) → FitsIn n w → HasVariablesBelow (2 * n) w.nodes
fits_below n w fit = let P : Parts → Type 0 = λ v. HasVariablesBelow (2 * n) v.nodes in subst P fit (relation_below n (leads w))

pub fits_from : (n : ℕ) (w : Parts) → IsCanonical w.root w.nodes → HasVariablesBelow (2 * n) w.nodes → FitsIn n w
fits_from n w canonical below = sym (is_relation_of n w canonical below (leads w) (λ x y. refl))

pub leads_reads : (n : ℕ) (w : Parts) → FitsIn n w → ReadsPairs n (leads w)
leads_reads n w fit x y x' y' a b = reads_below (2 * n) w.nodes (fits_canonical n w fit).reduced w.root (fits_below n w fit) (of_states x y) (of_states x' y') (states_agree n x y x' y' a b)

pub relation_fits : (n : ℕ) (a : Pairs) → FitsIn n (relation_of n a)
relation_fits n a = fits_from n (relation_of n a) (relation_canonical n a) (relation_below n a)

-- relations that fit are equal where they have the same pairs
pub same_relation : (n : ℕ) (a b : Parts) → FitsIn n a → FitsIn n b → ((x y : ℕ → Bool) → leads a x y ≡ leads b x y) → a ≡ b
same_relation n a b fa fb same = sym fa ∙ pairs_same n (leads a) (leads b) same ∙ fb

-- ---- the operations

abbrev pub combined : ℕ → Parts → Parts → Parts
combined n a b = relation_of n (union (leads a) (leads b))

abbrev pub extended : ℕ → Parts → Parts → Parts
extended n a b = relation_of n (composition n (leads a) (leads b))

module _ (n : ℕ) (a b : Parts) (fa : FitsIn n a) (fb : FitsIn n b) where
  pub leads_combined : (x y : ℕ → Bool) → leads (combined n a b) x y ≡ (leads a x y || leads b x y)
  leads_combined x y = leads_of n (union (leads a) (leads b)) (union_reads n (leads a) (leads b) (leads_reads n a fa) (leads_reads n b fb)) x y

  leads_extended : (x y : ℕ → Bool) → leads (extended n a b) x y ≡ composition n (leads a) (leads b) x y
  leads_extended x y = leads_of n (composition n (leads a) (leads b)) (composition_reads n (leads a) (leads b) (leads_reads n a fa) (leads_reads n b fb)) x y

  pub extended_gives : (x z : ℕ → Bool) → IsTrue (leads (extended n a b) x z) → (m : ℕ → Bool) × IsTrue (leads a x m) × IsTrue (leads b m z)
  extended_gives x z h = composition_gives n (leads a) (leads b) x z (sym (leads_extended x z) ∙ h)

  pub extended_from : (x m z : ℕ → Bool) → IsTrue (leads a x m) → IsTrue (leads b m z) → IsTrue (leads (extended n a b) x z)
  extended_from x m z h k = leads_extended x z ∙ composition_from n (leads a) (leads b) (leads_reads n a fa) (leads_reads n b fb) x m z h k

-- ---- the laws of combine

or_comm : (a b : Bool) → (a || b) ≡ (b || a)
or_comm true true = refl
or_comm true false = refl
or_comm false true = refl
or_comm false false = refl

or_assoc : (a b c : Bool) → ((a || b) || c) ≡ (a || (b || c))
or_assoc true b c = refl
or_assoc false b c = refl

or_same : (a : Bool) → (a || a) ≡ a
or_same true = refl
or_same false = refl

pub combined_comm : (n : ℕ) (a b : Parts) → combined n a b ≡ combined n b a
combined_comm n a b = pairs_same n (union (leads a) (leads b)) (union (leads b) (leads a)) (λ x y. or_comm (leads a x y) (leads b x y))

pub combined_assoc : (n : ℕ) (a b c : Parts) → FitsIn n a → FitsIn n b → FitsIn n c → combined n (combined n a b) c ≡ combined n a (combined n b c)
combined_assoc n a b c fa fb fc = pairs_same n (union (leads (combined n a b)) (leads c)) (union (leads a) (leads (combined n b c))) (λ x y.
    ap (λ t. t || leads c x y) (leads_combined n a b fa fb x y)
    ∙ or_assoc (leads a x y) (leads b x y) (leads c x y)
    ∙ ap (λ t. leads a x y || t) (sym (leads_combined n b c fb fc x y)))

pub combined_same : (n : ℕ) (a : Parts) → FitsIn n a → combined n a a ≡ a
combined_same n a fa = pairs_same n (union (leads a) (leads a)) (leads a) (λ x y. or_same (leads a x y)) ∙ fa

abbrev pub nothing : ℕ → Parts
nothing n = relation_of n no_pairs

pub leads_nothing : (n : ℕ) (x y : ℕ → Bool) → leads (nothing n) x y ≡ false
leads_nothing n x y = leads_of n no_pairs (none_reads n) x y

pub combined_nothing : (n : ℕ) (a : Parts) → FitsIn n a → combined n (nothing n) a ≡ a
combined_nothing n a fa = pairs_same n (union (leads (nothing n)) (leads a)) (leads a) (λ x y. ap (λ t. t || leads a x y) (leads_nothing n x y)) ∙ fa

-- ---- the laws of extend

pub extended_assoc : (n : ℕ) (a b c : Parts) → FitsIn n a → FitsIn n b → FitsIn n c → extended n (extended n a b) c ≡ extended n a (extended n b c)
extended_assoc n a b c fa fb fc =
    let fab = relation_fits n (composition n (leads a) (leads b)) in
    let fbc = relation_fits n (composition n (leads b) (leads c)) in
    same_relation n (extended n (extended n a b) c) (extended n a (extended n b c))
    (relation_fits n (composition n (leads (extended n a b)) (leads c))) (relation_fits n (composition n (leads a) (leads (extended n b c)))) (λ x z.
    same_truth (leads (extended n (extended n a b) c) x z) (leads (extended n a (extended n b c)) x z)
    (λ h.
    let s = extended_gives n (extended n a b) c fab fc x z h in
    let t = extended_gives n a b fa fb x s.0 s.1 in
    extended_from n a (extended n b c) fa fbc x t.0 z t.1 (extended_from n b c fb fc t.0 s.0 z t.2 s.2))
    (λ h.
    let s = extended_gives n a (extended n b c) fa fbc x z h in
    let t = extended_gives n b c fb fc s.0 z s.2 in
    extended_from n (extended n a b) c fab fc x t.0 z (extended_from n a b fa fb x s.0 t.0 s.1 t.1) t.2))

abbrev pub stay : ℕ → Parts
stay n = relation_of n (identity n)

pub leads_stay : (n : ℕ) (x y : ℕ → Bool) → leads (stay n) x y ≡ identity n x y
leads_stay n x y = leads_of n (identity n) (identity_reads n) x y

stay_agrees : (n : ℕ) (x y : ℕ → Bool) → IsTrue (leads (stay n) x y) → AgreeBelow n x y
stay_agrees n x y h k b = same_bit_is (x k) (y k) (each_gives n (λ i. same_bit (x i) (y i)) (sym (leads_stay n x y) ∙ h) k b)

stay_itself : (n : ℕ) (x : ℕ → Bool) → IsTrue (leads (stay n) x x)
stay_itself n x = leads_stay n x x ∙ each_from n (λ i. same_bit (x i) (x i)) (λ k b. same_bit_itself (x k))

pub extended_stay_left : (n : ℕ) (a : Parts) → FitsIn n a → extended n (stay n) a ≡ a
extended_stay_left n a fa =
    let f1 = relation_fits n (identity n) in
    same_relation n (extended n (stay n) a) a (relation_fits n (composition n (leads (stay n)) (leads a))) fa (λ x z.
    same_truth (leads (extended n (stay n) a) x z) (leads a x z)
    (λ h. let s = extended_gives n (stay n) a f1 fa x z h in leads_reads n a fa x z s.0 z (stay_agrees n x s.0 s.1) (agree_same n z) ∙ s.2)
    (λ h. extended_from n (stay n) a f1 fa x x z (stay_itself n x) h))

pub extended_stay_right : (n : ℕ) (a : Parts) → FitsIn n a → extended n a (stay n) ≡ a
extended_stay_right n a fa =
    let f1 = relation_fits n (identity n) in
    same_relation n (extended n a (stay n)) a (relation_fits n (composition n (leads a) (leads (stay n)))) fa (λ x z.
    same_truth (leads (extended n a (stay n)) x z) (leads a x z)
    (λ h. let s = extended_gives n a (stay n) fa f1 x z h in leads_reads n a fa x z x s.0 (agree_same n x) (agree_sym n s.0 z (stay_agrees n s.0 z s.2)) ∙ s.1)
    (λ h. extended_from n a (stay n) fa f1 x z z h (stay_itself n z)))

not_true : (b : Bool) → (IsTrue b → ⊥) → b ≡ false
not_true true h = absurd (h refl)
not_true false h = refl

not_both : (b : Bool) → b ≡ false → IsTrue b → ⊥
not_both b e h = let f : true ≡ false = sym h ∙ e in cc

pub extended_nothing_left : (n : ℕ) (a : Parts) → FitsIn n a → extended n (nothing n) a ≡ nothing n
extended_nothing_left n a fa =
    let f0 = relation_fits n no_pairs in
    same_relation n (extended n (nothing n) a) (nothing n) (relation_fits n (composition n (leads (nothing n)) (leads a))) f0 (λ x z.
    not_true (leads (extended n (nothing n) a) x z) (λ h. let s = extended_gives n (nothing n) a f0 fa x z h in not_both (leads (nothing n) x s.0) (leads_nothing n x s.0) s.1)
    ∙ sym (leads_nothing n x z))

pub extended_nothing_right : (n : ℕ) (a : Parts) → FitsIn n a → extended n a (nothing n) ≡ nothing n
extended_nothing_right n a fa =
    let f0 = relation_fits n no_pairs in
    same_relation n (extended n a (nothing n)) (nothing n) (relation_fits n (composition n (leads a) (leads (nothing n)))) f0 (λ x z.
    not_true (leads (extended n a (nothing n)) x z) (λ h. let s = extended_gives n a (nothing n) fa f0 x z h in not_both (leads (nothing n) s.0 z) (leads_nothing n s.0 z) s.2)
    ∙ sym (leads_nothing n x z))

module _ (n : ℕ) (a b c : Parts) (fa : FitsIn n a) (fb : FitsIn n b) (fc : FitsIn n c) where
  pub extended-combined_right : extended n a (combined n b c) ≡ combined n (extended n a b) (extended n a c)
  extended-combined_right =
      let fbc = relation_fits n (union (leads b) (leads c)) in
      let fab = relation_fits n (composition n (leads a) (leads b)) in
      let fac = relation_fits n (composition n (leads a) (leads c)) in
      same_relation n (extended n a (combined n b c)) (combined n (extended n a b) (extended n a c))
      (relation_fits n (composition n (leads a) (leads (combined n b c)))) (relation_fits n (union (leads (extended n a b)) (leads (extended n a c)))) (λ x z.
      same_truth (leads (extended n a (combined n b c)) x z) (leads (combined n (extended n a b) (extended n a c)) x z)
      (λ h.
      let s = extended_gives n a (combined n b c) fa fbc x z h in
      leads_combined n (extended n a b) (extended n a c) fab fac x z
      ∙ elim (or_cases (leads b s.0 z) (leads c s.0 z) (sym (leads_combined n b c fb fc s.0 z) ∙ s.2)) [
        | inl k ↦ or_left (leads (extended n a b) x z) (leads (extended n a c) x z) (extended_from n a b fa fb x s.0 z s.1 k)
        | inr k ↦ or_right (leads (extended n a b) x z) (leads (extended n a c) x z) (extended_from n a c fa fc x s.0 z s.1 k)
      ])
      (λ h. elim (or_cases (leads (extended n a b) x z) (leads (extended n a c) x z) (sym (leads_combined n (extended n a b) (extended n a c) fab fac x z) ∙ h)) [
        | inl k ↦
            let s = extended_gives n a b fa fb x z k in
            extended_from n a (combined n b c) fa fbc x s.0 z s.1 (leads_combined n b c fb fc s.0 z ∙ or_left (leads b s.0 z) (leads c s.0 z) s.2)
        | inr k ↦
            let s = extended_gives n a c fa fc x z k in
            extended_from n a (combined n b c) fa fbc x s.0 z s.1 (leads_combined n b c fb fc s.0 z ∙ or_right (leads b s.0 z) (leads c s.0 z) s.2)
      ]))

  pub extended-combined_left : extended n (combined n a b) c ≡ combined n (extended n a c) (extended n b c)
  extended-combined_left =
      let fab = relation_fits n (union (leads a) (leads b)) in
      let fac = relation_fits n (composition n (leads a) (leads c)) in
      let fbc = relation_fits n (composition n (leads b) (leads c)) in
      same_relation n (extended n (combined n a b) c) (combined n (extended n a c) (extended n b c))
      (relation_fits n (composition n (leads (combined n a b)) (leads c))) (relation_fits n (union (leads (extended n a c)) (leads (extended n b c)))) (λ x z.
      same_truth (leads (extended n (combined n a b) c) x z) (leads (combined n (extended n a c) (extended n b c)) x z)
      (λ h.
      let s = extended_gives n (combined n a b) c fab fc x z h in
      leads_combined n (extended n a c) (extended n b c) fac fbc x z
      ∙ elim (or_cases (leads a x s.0) (leads b x s.0) (sym (leads_combined n a b fa fb x s.0) ∙ s.1)) [
        | inl k ↦ or_left (leads (extended n a c) x z) (leads (extended n b c) x z) (extended_from n a c fa fc x s.0 z k s.2)
        | inr k ↦ or_right (leads (extended n a c) x z) (leads (extended n b c) x z) (extended_from n b c fb fc x s.0 z k s.2)
      ])
      (λ h. elim (or_cases (leads (extended n a c) x z) (leads (extended n b c) x z) (sym (leads_combined n (extended n a c) (extended n b c) fac fbc x z) ∙ h)) [
        | inl k ↦
            let s = extended_gives n a c fa fc x z k in
            extended_from n (combined n a b) c fab fc x s.0 z (leads_combined n a b fa fb x s.0 ∙ or_left (leads a x s.0) (leads b x s.0) s.1) s.2
        | inr k ↦
            let s = extended_gives n b c fb fc x z k in
            extended_from n (combined n a b) c fab fc x s.0 z (leads_combined n a b fa fb x s.0 ∙ or_right (leads a x s.0) (leads b x s.0) s.1) s.2
      ]))

pub stay_is_something : (n : ℕ) → stay n ≢ nothing n
stay_is_something n e =
    let f : leads (stay n) none_set none_set ≡ leads (nothing n) none_set none_set = ap (λ w. leads w none_set none_set) e in
    not_both (leads (stay n) none_set none_set) (f ∙ leads_nothing n none_set none_set) (stay_itself n none_set)

-- ---- the laws of return maps

module _ (n : ℕ) (source : ℕ → (ℕ → Bool) → (ℕ → Bool) → Bool) (rs : ReadsSource n source) where
  abbrev given_back : Parts → Parts
  given_back a = relation_of n (returned n source (leads a))

  abbrev takes : (x z y : ℕ → Bool) → Bool
  takes x z y = each_below n (λ v. same_bit (y v) (source v x z))

  leads_back : (a : Parts) → FitsIn n a → (x y : ℕ → Bool) → leads (given_back a) x y ≡ returned n source (leads a) x y
  leads_back a fa x y = leads_of n (returned n source (leads a)) (returned_reads n source (leads a) rs (leads_reads n a fa)) x y

  pub back_gives : (a : Parts) → FitsIn n a → (x y : ℕ → Bool) → IsTrue (leads (given_back a) x y) → (z : ℕ → Bool) × IsTrue (leads a x z) × IsTrue (takes x z y)
  back_gives a fa x y h =
      let s = some_gives n 0 (λ z. leads a x z && takes x z y) (sym (leads_back a fa x y) ∙ h) in
      let parts = and_parts (leads a x s.0) (takes x s.0 y) s.1 in
      (s.0, parts.0, parts.1)

  pub back_from : (a : Parts) → FitsIn n a → (x z y : ℕ → Bool) → IsTrue (leads a x z) → IsTrue (takes x z y) → IsTrue (leads (given_back a) x y)
  back_from a fa x z y h k =
      leads_back a fa x y
      ∙ some_of n (λ u. leads a x u && takes x u y)
      (λ u u' agree. ap₂ (λ s t. s && t) (leads_reads n a fa x u x u' (agree_same n x) agree)
      (each_same n (λ v. same_bit (y v) (source v x u)) (λ v. same_bit (y v) (source v x u')) (λ v below. ap (same_bit (y v)) (rs v below x u x u' (agree_same n x) agree))))
      z (and_from (leads a x z) (takes x z y) h k)

  pub back_nothing : given_back (nothing n) ≡ nothing n
  back_nothing =
      let f0 = relation_fits n no_pairs in
      same_relation n (given_back (nothing n)) (nothing n) (relation_fits n (returned n source (leads (nothing n)))) f0 (λ x y.
      not_true (leads (given_back (nothing n)) x y) (λ h. let s = back_gives (nothing n) f0 x y h in not_both (leads (nothing n) x s.0) (leads_nothing n x s.0) s.1)
      ∙ sym (leads_nothing n x y))

  pub back_combined : (a b : Parts) → FitsIn n a → FitsIn n b → given_back (combined n a b) ≡ combined n (given_back a) (given_back b)
  back_combined a b fa fb =
      let fab = relation_fits n (union (leads a) (leads b)) in
      let ga = relation_fits n (returned n source (leads a)) in
      let gb = relation_fits n (returned n source (leads b)) in
      same_relation n (given_back (combined n a b)) (combined n (given_back a) (given_back b))
      (relation_fits n (returned n source (leads (combined n a b)))) (relation_fits n (union (leads (given_back a)) (leads (given_back b)))) (λ x y.
      same_truth (leads (given_back (combined n a b)) x y) (leads (combined n (given_back a) (given_back b)) x y)
      (λ h.
      let s = back_gives (combined n a b) fab x y h in
      leads_combined n (given_back a) (given_back b) ga gb x y
      ∙ elim (or_cases (leads a x s.0) (leads b x s.0) (sym (leads_combined n a b fa fb x s.0) ∙ s.1)) [
        | inl k ↦ or_left (leads (given_back a) x y) (leads (given_back b) x y) (back_from a fa x s.0 y k s.2)
        | inr k ↦ or_right (leads (given_back a) x y) (leads (given_back b) x y) (back_from b fb x s.0 y k s.2)
      ])
      (λ h. elim (or_cases (leads (given_back a) x y) (leads (given_back b) x y) (sym (leads_combined n (given_back a) (given_back b) ga gb x y) ∙ h)) [
        | inl k ↦
            let s = back_gives a fa x y k in
            back_from (combined n a b) fab x s.0 y (leads_combined n a b fa fb x s.0 ∙ or_left (leads a x s.0) (leads b x s.0) s.1) s.2
        | inr k ↦
            let s = back_gives b fb x y k in
            back_from (combined n a b) fab x s.0 y (leads_combined n a b fa fb x s.0 ∙ or_right (leads a x s.0) (leads b x s.0) s.1) s.2
      ]))
