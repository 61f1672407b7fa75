-- Several patterns in one automaton: a path that ends in one pattern stays in its edges.
use Rattle.std.proofs.Common.{◌≡◌, ◌⊎◌, inl, inr, ℕ, zero, suc, ◌+◌, ◌<◌, ◌≤◌, List, [], ◌∷◌, ◌++◌, length, drop, get_or, refl, sym, ap, ◌∙◌, append_assoc, subst, arith}
use Rattle.std.specs.Prelude.{◌↔◌, IsTrue, Some, slice_get}
use Rattle.std.specs.List.{All, AllByRecursion, range_with_len}
use Rattle.std.proofs.lemmas.List.Elements.{recursion_from_All}
use Rattle.std.proofs.lemmas.Option.{same_Some}
use Rattle.std.proofs.lemmas.List.{at_drop_more}
use Rattle.weighted_automata.specs.declared.place.Place.{Place}
use Rattle.weighted_automata.specs.declared.place.Label.TheVariants.{Symbol}
use Rattle.pushdown_rules.specs.Configuration.{Configuration}
use Rattle.config_patterns.specs.Membership.{PatternValue, has_member}
use Rattle.config_patterns.specs.Edges.{is_final_of}
use Rattle.wpds_base.specs.Lists.{IsIn}
use Rattle.saturation_laws.specs.Paths.{Reads, IsOpened}
use Rattle.saturation_laws.proofs.CallerLemmas.{in_append, in_left, in_right, from_map, from_filter, from_range}
use Rattle.pattern_openings.specs.PatternOpenings.{state_of, finals_of_items, opening_of}
use Rattle.pattern_openings.specs.JointOpenings.{joint_edges, joint_finals, items_of, LeadsToItem, AreBefore}
use Rattle.pattern_openings.proofs.EdgeLemmas.{opening_edge}
use Rattle.pattern_openings.proofs.ReadLemmas.{opening_reads}

-- the pattern is of one of the controls
abbrev IsLow : ℕ → PatternValue → Type 0
IsLow controls pattern = pattern.control < controls

-- the state stands before these or behind them
abbrev IsOutside : ℕ → ℕ → ℕ → Type 0
IsOutside low high n = (n < low) ⊎ (high ≤ n)

-- An edge that keeps away from these states, and leads to no control.
record IsApart (controls low high : ℕ) (x : Place) : Type 0 where
  pub from : IsOutside low high x.from
  pub to : IsOutside low high x.to
  pub to_item : controls ≤ x.to

-- Where a pattern's own edges stand among all: its items are numbered from a base, and the other edges keep away from them.
record IsAmong (controls least : ℕ) (edges : List Place) (pattern : PatternValue) (finals : List ℕ) : Type 0 where
  pub control : pattern.control < controls
  pub base : ℕ
  pub behind : least ≤ base
  pub finals_are : (opening_of base pattern).finals ≡ finals
  pub own : (x : Place) → IsIn x (opening_of base pattern).edges → IsIn x edges
  pub only : (x : Place) → IsIn x edges → IsIn x (opening_of base pattern).edges ⊎ IsApart controls base (base + length pattern.items) x

-- the edges of patterns behind a base leave a control or a state from there on, to a state from there on
joint_behind : (controls base : ℕ) → (patterns : List PatternValue) → AllByRecursion (IsLow controls) patterns → (x : Place) → IsIn x (joint_edges base patterns)
    → ((x.from < controls) ⊎ (base ≤ x.from)) × (base ≤ x.to)
joint_behind controls base [] low x there = elim there [ ]
joint_behind controls base (d ∷ ds) low x there = elim (in_append x (opening_of base d).edges (joint_edges (base + length d.items) ds) there) [
  | inl here ↦
      let is = opening_edge d base x here in
      let control = low.0 in (
        elim is.from [ inl at ↦ inl (omega (arith, at, control)) | inr item ↦ inr item.0 ],
        is.to_item,
      )
  | inr later ↦
      let is = joint_behind controls (base + length d.items) ds low.1 x later in
      let far = is.1 in (
        elim is.0 [ inl at ↦ inl at | inr item ↦ inr (let g : base + length d.items ≤ x.from = item in omega (arith, g)) ],
        omega (arith, far),
      )
]

among : (controls base : ℕ) → controls ≤ base → (patterns : List PatternValue) → AllByRecursion (IsLow controls) patterns
    → (k : ℕ) (pattern : PatternValue) (finals : List ℕ) → slice_get patterns k ≡ Some pattern → slice_get (joint_finals base patterns) k ≡ Some finals
    → IsAmong controls base (joint_edges base patterns) pattern finals
among controls base above [] low k pattern finals is ends = cc
among controls base above (d ∷ ds) low zero pattern finals is ends =
    let same : d ≡ pattern = same_Some d pattern is in
    let P : PatternValue → Type 0 = λ e. IsAmong controls base (joint_edges base (d ∷ ds)) e finals in
    subst P same (record {
      control = low.0;
      base = base;
      behind = omega arith;
      finals_are = same_Some (opening_of base d).finals finals ends;
      own = λ x there. in_left x (opening_of base d).edges (joint_edges (base + length d.items) ds) there;
      only = λ x there. elim (in_append x (opening_of base d).edges (joint_edges (base + length d.items) ds) there) [
        | inl here ↦ inl here
        | inr later ↦
            let far = joint_behind controls (base + length d.items) ds low.1 x later in
            let to = far.1 in
            inr (record {
              from = elim far.0 [ inl at ↦ inl (let g : x.from < controls = at in omega (arith, g, above)) | inr item ↦ inr item ];
              to = inr to;
              to_item = omega (arith, to, above);
            })
      ];
    })
among controls base above (d ∷ ds) low (suc k) pattern finals is ends =
    let rest = among controls (base + length d.items) (omega (arith, above)) ds low.1 k pattern finals is ends in
    let behind = rest.behind in
    let control = low.0 in record {
      control = rest.control;
      base = rest.base;
      behind = omega (arith, behind);
      finals_are = rest.finals_are;
      own = λ x there. in_right x (opening_of base d).edges (joint_edges (base + length d.items) ds) (rest.own x there);
      only = λ x there. elim (in_append x (opening_of base d).edges (joint_edges (base + length d.items) ds) there) [
        | inl here ↦
            let edge = opening_edge d base x here in
            let to = edge.to_item in
            let last = edge.to_last in
            inr (record {
              from = inl (elim edge.from [
                | inl at ↦ omega (arith, at, control, above, behind)
                | inr item ↦ let g = item.1 in omega (arith, g, behind)
              ]);
              to = inl (omega (arith, last, behind));
              to_item = omega (arith, to, above);
            })
        | inr later ↦ rest.only x later
      ];
    }

-- a final state of an opening is the control, or stands for an item
final_where : (base : ℕ) (pattern : PatternValue) (q : ℕ) → IsIn q (opening_of base pattern).finals → (q ≡ pattern.control) ⊎ ((base ≤ q) × (q < base + length pattern.items))
final_where base pattern q there =
    let items = pattern.items in
    let i = from_map (state_of base pattern.control) q (finals_of_items items) there in
    let within = from_range 0 (suc (length items)) i.before (from_filter (is_final_of items) i.before (range_with_len 0 (suc (length items))) i.there).0 in
    (elim i.before as (λ n. n < 0 + suc (length items) → state_of base pattern.control n ≡ q → (q ≡ pattern.control) ⊎ ((base ≤ q) × (q < base + length items))) [
      | zero ↦ λ h e. inl (sym e)
      | suc n ↦ λ h e. let h' : suc n < 0 + suc (length items) = h in let e' : base + n ≡ q = e in inr (omega (arith, e'), omega (arith, e', h'))
    ]) within.1 i.is

reads_among : (edges more : List Place) → ((x : Place) → IsIn x edges → IsIn x more) → (from : ℕ) (word : List ℕ) (to : ℕ) → Reads edges from word to → Reads more from word to
reads_among edges more each from [] to reads = reads
reads_among edges more each from (g ∷ word) to reads = (reads.0, each _ reads.1, reads_among edges more each reads.0 word to reads.2)

-- with edges from before these, a pattern's own stand among all
among_later : (controls first : ℕ) (edges more : List Place) (pattern : PatternValue) (finals : List ℕ) → AreBefore controls first edges → IsAmong controls first more pattern finals
    → IsAmong controls first (edges ++ more) pattern finals
among_later controls first edges more pattern finals before is =
    let behind = is.behind in record {
      control = is.control;
      base = is.base;
      behind = behind;
      finals_are = is.finals_are;
      own = λ x there. in_right x edges more (is.own x there);
      only = λ x there. elim (in_append x edges more there) [
        | inl old ↦
            let at = before x old in
            let from = at.from in
            let to = at.to_last in
            inr (record { from = inl (omega (arith, from, behind)); to = inl (omega (arith, to, behind)); to_item = at.to_item })
        | inr later ↦ is.only x later
      ];
    }

module _ (controls first : ℕ) (above : controls ≤ first) (edges : List Place) (pattern : PatternValue) (finals : List ℕ) (in_all : IsAmong controls first edges pattern finals) where
  low : pattern.control < controls
  low = in_all.control

  abbrev low_end : ℕ
  low_end = in_all.base

  abbrev high_end : ℕ
  high_end = in_all.base + length pattern.items

  abbrev own : List Place
  own = (opening_of in_all.base pattern).edges

  -- from a state of another pattern no path leads to one of this
  stays_apart : (from : ℕ) (word : List ℕ) (to : ℕ) → controls ≤ from → IsOutside low_end high_end from → Reads edges from word to → (controls ≤ to) × IsOutside low_end high_end to
  stays_apart from [] to item outside reads = let P : ℕ → Type 0 = λ n. (controls ≤ n) × IsOutside low_end high_end n in subst P reads (item, outside)
  stays_apart from (g ∷ word) to item outside reads = elim (in_all.only _ reads.1) [
    | inl here ↦ absurd (elim (opening_edge pattern in_all.base _ here).from [
      | inl at ↦ let at' : from ≡ pattern.control = at in omega (arith, at', low, item)
      | inr inside ↦
          let a : in_all.base ≤ from = inside.0 in
          let b : from < in_all.base + length pattern.items = inside.1 in
          elim outside [ inl less ↦ omega (arith, a, less) | inr more ↦ omega (arith, b, more) ]
    ])
    | inr apart ↦ stays_apart reads.0 word to apart.to_item apart.to reads.2
  ]

  -- from one of this pattern all edges are its own
  stays_own : (from : ℕ) (word : List ℕ) (to : ℕ) → in_all.base ≤ from → from < high_end → Reads edges from word to → Reads own from word to
  stays_own from [] to a b reads = reads
  stays_own from (g ∷ word) to a b reads = elim (in_all.only _ reads.1) [
    | inl here ↦
        let edge = opening_edge pattern in_all.base _ here in
        (reads.0, here, stays_own reads.0 word to edge.to_item edge.to_last reads.2)
    | inr apart ↦ absurd (elim apart.from [
      | inl less ↦ let h : from < in_all.base = less in omega (arith, a, h)
      | inr more ↦ let h : high_end ≤ from = more in omega (arith, b, h)
    ])
  ]

  no_final : (q : ℕ) → controls ≤ q → IsOutside low_end high_end q → IsIn q (opening_of in_all.base pattern).finals → ⊥
  no_final q item outside final = elim (final_where in_all.base pattern q final) [
    | inl at ↦ omega (arith, at, low, item)
    | inr inside ↦
        let a = inside.0 in
        let b = inside.1 in
        elim outside [ inl less ↦ omega (arith, a, less) | inr more ↦ omega (arith, b, more) ]
  ]

  ends_own : (c : ℕ) (word : List ℕ) (q : ℕ) → Reads edges c word q → IsIn q (opening_of in_all.base pattern).finals → Reads own c word q
  ends_own c [] q reads final = reads
  ends_own c (g ∷ word) q reads final = elim (in_all.only _ reads.1) [
    | inl here ↦
        let edge = opening_edge pattern in_all.base _ here in
        (reads.0, here, stays_own reads.0 word q edge.to_item edge.to_last reads.2)
    | inr apart ↦
        let far = stays_apart reads.0 word q apart.to_item apart.to reads.2 in
        absurd (no_final q far.0 far.1 final)
  ]

  reads_members : (d : Configuration) → d.control < controls → IsOpened (record { edges = edges; finals = finals }) d ↔ IsTrue (has_member pattern d)
  reads_members d less =
      let behind = in_all.behind in
      let is = opening_reads pattern in_all.base (omega (arith, low, above, behind)) d (omega (arith, less, above, behind)) in (
        λ opened.
            let final : IsIn opened.0 (opening_of in_all.base pattern).finals = let P : List ℕ → Type 0 = λ qs. IsIn opened.0 qs in subst P (sym in_all.finals_are) opened.2 in
            is.0 (opened.0, ends_own d.control d.stack opened.0 opened.1 final, final),
        λ member.
            let opened = is.1 member in
            let P : List ℕ → Type 0 = λ qs. IsIn opened.0 qs in
            (opened.0, reads_among own edges in_all.own d.control d.stack opened.0 opened.1, subst P in_all.finals_are opened.2),
      )

-- all edges together read the members of each pattern to its final states, beside edges from before theirs
pub later_reads : (edges : List Place) (patterns : List PatternValue) (controls first : ℕ) → controls ≤ first → AreBefore controls first edges → All (λ (d : PatternValue). d.control < controls) patterns
    → (k : ℕ) (pattern : PatternValue) (finals : List ℕ) → slice_get patterns k ≡ Some pattern → slice_get (joint_finals first patterns) k ≡ Some finals
    → (d : Configuration) → d.control < controls → IsOpened (record { edges = edges ++ joint_edges first patterns; finals = finals }) d ↔ IsTrue (has_member pattern d)
later_reads edges patterns controls first above before low k pattern finals is ends d less =
    let each = recursion_from_All (IsLow controls) patterns low in
    let own = among controls first above patterns each k pattern finals is ends in
    reads_members controls first above (edges ++ joint_edges first patterns) pattern finals (among_later controls first edges (joint_edges first patterns) pattern finals before own) d less

-- each leads over a symbol to a state from the base on
joint_edge_from : (controls base : ℕ) → controls ≤ base → (patterns : List PatternValue) (x : Place) → IsIn x (joint_edges base patterns) → LeadsToItem controls x
joint_edge_from controls base above [] x there = elim there [ ]
joint_edge_from controls base above (d ∷ ds) x there = elim (in_append x (opening_of base d).edges (joint_edges (base + length d.items) ds) there) [
  | inl here ↦ let is = opening_edge d base x here in let to = is.to_item in record { reads = is.reads; to_item = omega (arith, to, above) }
  | inr later ↦ joint_edge_from controls (base + length d.items) (omega (arith, above)) ds x later
]

pub joint_edge : (patterns : List PatternValue) (controls : ℕ) (x : Place) → IsIn x (joint_edges controls patterns) → LeadsToItem controls x
joint_edge patterns controls x there = joint_edge_from controls controls (omega arith) patterns x there

-- An edge of patterns whose items, so many, are numbered from a first number on: over a symbol, from a control or an item's state to an item's state.
pub record IsLaterEdge (controls first count : ℕ) (x : Place) : Type 0 where
  pub from : (x.from < controls) ⊎ (first ≤ x.from)
  pub from_last : x.from < first + count
  pub reads : (g : ℕ) × (x.label ≡ Symbol g)
  pub to_item : first ≤ x.to
  pub to_last : x.to < first + count

each_later : (controls first : ℕ) → controls ≤ first → (patterns : List PatternValue) → AllByRecursion (IsLow controls) patterns → (x : Place) → IsIn x (joint_edges first patterns)
    → IsLaterEdge controls first (items_of patterns) x
each_later controls first above [] low x there = elim there [ ]
each_later controls first above (d ∷ ds) low x there = elim (in_append x (opening_of first d).edges (joint_edges (first + length d.items) ds) there) [
  | inl here ↦
      let is = opening_edge d first x here in
      let control = low.0 in
      let last = is.to_last in record {
        from = elim is.from [ inl at ↦ inl (omega (arith, at, control)) | inr item ↦ inr item.0 ];
        from_last = elim is.from [ inl at ↦ omega (arith, at, control, above) | inr item ↦ let to = item.1 in omega (arith, to) ];
        reads = is.reads;
        to_item = is.to_item;
        to_last = omega (arith, last);
      }
  | inr later ↦
      let is = each_later controls (first + length d.items) (omega (arith, above)) ds low.1 x later in
      let from = is.from_last in
      let to = is.to_item in
      let last = is.to_last in record {
        from = elim is.from [ inl at ↦ inl at | inr item ↦ inr (let g : first + length d.items ≤ x.from = item in omega (arith, g)) ];
        from_last = omega (arith, from);
        reads = is.reads;
        to_item = omega (arith, to);
        to_last = omega (arith, last);
      }
]

-- each edge of several patterns is one
pub later_edge : (controls first : ℕ) → controls ≤ first → (patterns : List PatternValue) → All (λ (d : PatternValue). d.control < controls) patterns → (x : Place) → IsIn x (joint_edges first patterns)
    → IsLaterEdge controls first (items_of patterns) x
later_edge controls first above patterns low x there = each_later controls first above patterns (recursion_from_All (IsLow controls) patterns low) x there

-- what was gathered so far and what is left to gather, one pattern further
module _ {X : Type 0} (gathered : ℕ → List PatternValue → List X) (own : ℕ → PatternValue → List X)
    (unfolds : (states : ℕ) (d : PatternValue) (ds : List PatternValue) → gathered states (d ∷ ds) ≡ own states d ++ gathered (states + length d.items) ds) where
  pub gathered_next : (states next i : ℕ) (patterns : List PatternValue) (d : PatternValue) (before after all : List X) → i < length patterns → d ≡ get_or patterns i d → next ≡ length d.items
      → before ++ gathered states (drop i patterns) ≡ all → after ≡ before ++ own states d → after ++ gathered (states + next) (drop (i + 1) patterns) ≡ all
  gathered_next states next i patterns d before after all less is many was made =
      let rest = drop (i + 1) patterns in
      let left : gathered states (drop i patterns) ≡ own states d ++ gathered (states + next) rest =
      at_drop_more (gathered states) patterns i d less ∙ ap (λ e. gathered states (e ∷ rest)) (sym is) ∙ unfolds states d rest ∙ ap (λ n. own states d ++ gathered (states + n) rest) (sym many) in
      ap (λ ys. ys ++ gathered (states + next) rest) made ∙ append_assoc before (own states d) (gathered (states + next) rest) ∙ ap (λ ys. before ++ ys) (sym left) ∙ was

pub edges_next : (states next i : ℕ) (patterns : List PatternValue) (d : PatternValue) (before after all : List Place) → i < length patterns → d ≡ get_or patterns i d → next ≡ length d.items
    → before ++ joint_edges states (drop i patterns) ≡ all → after ≡ before ++ (opening_of states d).edges → after ++ joint_edges (states + next) (drop (i + 1) patterns) ≡ all
edges_next = gathered_next joint_edges (λ n d. (opening_of n d).edges) (λ n d ds. refl)

pub finals_next : (states next i : ℕ) (patterns : List PatternValue) (d : PatternValue) (before after all : List (List ℕ)) → i < length patterns → d ≡ get_or patterns i d → next ≡ length d.items
    → before ++ joint_finals states (drop i patterns) ≡ all → after ≡ before ++ (opening_of states d).finals ∷ [] → after ++ joint_finals (states + next) (drop (i + 1) patterns) ≡ all
finals_next = gathered_next joint_finals (λ n d. (opening_of n d).finals ∷ []) (λ n d ds. refl)

-- the numbers so far and the items that are left, one pattern further
pub items_next : (states next i : ℕ) (patterns : List PatternValue) (d : PatternValue) (all : ℕ) → i < length patterns → d ≡ get_or patterns i d → next ≡ length d.items
    → states + items_of (drop i patterns) ≡ all → (states + next) + items_of (drop (i + 1) patterns) ≡ all
items_next states next i patterns d all less is many was =
    let left : items_of (drop i patterns) ≡ length d.items + items_of (drop (i + 1) patterns) =
    at_drop_more items_of patterns i d less ∙ ap (λ e. items_of (e ∷ drop (i + 1) patterns)) (sym is) in
    omega (arith, left, many, was)
