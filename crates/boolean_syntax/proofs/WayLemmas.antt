-- The second walk over the lines.
use Rattle.std.proofs.Common.{◌≡◌, ℕ, suc, ◌+◌, ◌<◌, cond, List, [], ◌∷◌, ◌++◌, length, drop, drop-cons, get_or, add-one, map, Option, None, Some, refl, sym, ap, subst, ◌∙◌, append_assoc, append-nil, arith}
use Rattle.std.specs.Prelude.{option_map, Ok, Err}
use Rattle.wpds_base.specs.Faults.{first_fault}
use Rattle.wpds_port.specs.declared.Kind.{Kind}
use Rattle.wpds_port.specs.declared.Refusal.{Refusal}
use Rattle.wpds_port.specs.Refusals.{refusal}
use Rattle.document_forms.specs.Lines.{Line}
use Rattle.boolean_programs.specs.Structure.{Block}
use Rattle.program_forms.specs.Forms.{LineForm, GlobalForm, ProcForm, LocalForm, Stating, ElseForm, EndForm, QueryForm}
use Rattle.program_forms.specs.Places.{Place, said, at_top, Stated, Judged, judged, judged_from, place_behind, stated, next_place, ended}
use Rattle.program_forms.specs.Declared.{Whole, whole}
use Rattle.program_forms.specs.Above.{is_proc}
use Rattle.program_forms.specs.FirstRefusal.{kind_below, first_refused, end_conditions}
use Rattle.program_tables.specs.Judging.{IsStated, IsRefused, AreJudged}
use Rattle.program_tables.specs.declared.walk.StatedLine.{StatedLine}
use Rattle.boolean_syntax.specs.private.Found.{judged_lines, stated_lines, found_in, IsOnTheWay}
use Rattle.boolean_syntax.proofs.MoreLemmas.{count_more}

-- ---- places

same_begun : (p : Place) (bs : List Block) → (ended p bs).begun ≡ p.begun + 0
same_begun p [] = omega arith
same_begun p (b ∷ bs) = omega arith

next_begun : (p : Place) (f : LineForm) → (next_place p f).begun ≡ p.begun + cond (is_proc f) 1 0
next_begun p (GlobalForm xs) = omega arith
next_begun p (ProcForm f ps n) = refl
next_begun p (LocalForm xs) = omega arith
next_begun p (Stating l s) = omega arith
next_begun p ElseForm = omega arith
next_begun p EndForm = same_begun p p.blocks
next_begun p (QueryForm fails l) = omega arith

-- ---- one line

judged_more : (p : Place) (l : Line) (ls : List Line) (j : Judged) → judged p (said l) ≡ j
    → judged_from p (map said (l ∷ ls)) ≡ j ∷ judged_from (place_behind p j) (map said ls)
judged_more p l ls j e = ap (λ (i : Judged). i ∷ judged_from (place_behind p i) (map said ls)) e

pub by_kind : (w : Whole) (above : List Stated) (l : Stated) (js : List Judged) (o : Option Kind) → kind_below w above l ≡ o
    → first_refused w above (Ok l ∷ js) ≡ elim o [ Some k ↦ Some (refusal l.number k) | None ↦ first_refused w (above ++ l ∷ []) js ]
by_kind w above l js o e = ap (λ (i : Option Kind). elim i as (λ _. Option Refusal) [ Some k ↦ Some (refusal l.number k) | None ↦ first_refused w (above ++ l ∷ []) js ]) e

-- a line is refused by what it says
pub refused_below : (w : Whole) (above : List Stated) (p : Place) (l : Line) (m : Stated) (k : Kind)
    → judged p (said l) ≡ Ok m → kind_below w above m ≡ Some k → m.number ≡ l.number
    → (js : List Judged) → first_refused w above (judged p (said l) ∷ js) ≡ Some (refusal l.number k)
refused_below w above p l m k e h n js =
    ap (λ (j : Judged). first_refused w above (j ∷ js)) e ∙ by_kind w above m js (Some k) h ∙ ap (λ i. Some (refusal i k)) n

-- or for itself or its place
pub refused_alone : (w : Whole) (above : List Stated) (p : Place) (l : Line) (k : Kind)
    → judged p (said l) ≡ Err (l.number, k)
    → (js : List Judged) → first_refused w above (judged p (said l) ∷ js) ≡ Some (refusal l.number k)
refused_alone w above p l k e js = ap (λ (j : Judged). first_refused w above (j ∷ js)) e

-- ---- all lines

pub begins : (w : Whole) (all : List Line) (p : Place) → p ≡ at_top → IsOnTheWay w all p all []
begins w all p e = record {
  begun = ap (λ (q : Place). q.begun) e;
  stated = ap (λ q. stated (judged_from q (map said all))) (sym e);
  refused = ap (λ q. first_refused w [] (judged_from q (map said all))) (sym e);
}

pub goes_on : (w : Whole) (all : List Line) (p q : Place) (left rest : List Line) (above : List Stated) (l : Line) (m : Stated)
    → IsOnTheWay w all p left above → left ≡ l ∷ rest
    → judged p (said l) ≡ Ok m → kind_below w above m ≡ None → q ≡ next_place p m.form
    → IsOnTheWay w all q rest (above ++ m ∷ [])
goes_on w all p q left rest above l m h o e k n =
    let all_of : judged_from p (map said left) ≡ Ok m ∷ judged_from q (map said rest) =
    ap (λ ls. judged_from p (map said ls)) o ∙ judged_more p l rest (Ok m) e
    ∙ ap (λ r. Ok m ∷ judged_from r (map said rest)) (sym n) in
    record {
      begun =
          let a = next_begun p m.form in
          let b = count_more (λ (i : Stated). is_proc i.form) above m in
          let c = ap (λ (r : Place). r.begun) n in
          let d = h.begun in
          omega (arith, a, b, c, d);
      stated =
          h.stated ∙ ap (λ js. above ++ stated js) all_of
          ∙ sym (append_assoc above (m ∷ []) (stated (judged_from q (map said rest))));
      refused = h.refused ∙ ap (first_refused w above) all_of ∙ by_kind w above m (judged_from q (map said rest)) None k;
    }

-- the first of the lines that are left is refused
pub found_here : (w : Whole) (after : ℕ) (all : List Line) (p : Place) (left rest : List Line) (above : List Stated) (l : Line) (k : Kind)
    → w ≡ whole (stated_lines all) → IsOnTheWay w all p left above → left ≡ l ∷ rest
    → ((js : List Judged) → first_refused w above (judged p (said l) ∷ js) ≡ Some (refusal l.number k))
    → found_in after all ≡ Some (refusal l.number k)
found_here w after all p left rest above l k s h o r =
    ap (λ v. found_with v (first_refused v [] (judged_lines all))) (sym s)
    ∙ ap (found_with w) (h.refused ∙ ap (λ ls. first_refused w above (judged_from p (map said ls))) o ∙ r (judged_from (place_behind p (judged p (said l))) (map said rest)))
  where
    found_with : Whole → Option Refusal → Option Refusal
    found_with v x = elim x [ Some r ↦ Some r | None ↦ option_map (refusal after) (first_fault (end_conditions v (stated (judged_lines all)))) ]

-- none is left
pub all_taken : (w : Whole) (all : List Line) (p : Place) (left : List Line) (above : List Stated)
    → IsOnTheWay w all p left above → left ≡ [] → stated_lines all ≡ above
all_taken w all p left above h o = h.stated ∙ ap (λ ls. above ++ stated (judged_from p (map said ls))) o ∙ append-nil above

pub found_at_end : (w : Whole) (after : ℕ) (all : List Line) (p : Place) (left : List Line) (above : List Stated) (o : Option Kind)
    → w ≡ whole (stated_lines all) → IsOnTheWay w all p left above → left ≡ []
    → first_fault (end_conditions w above) ≡ o
    → found_in after all ≡ option_map (refusal after) o
found_at_end w after all p left above k s h o e =
    ap (λ v. found_with v (first_refused v [] (judged_lines all)) (stated_lines all)) (sym s)
    ∙ ap (λ x. found_with w x (stated_lines all)) (h.refused ∙ ap (λ ls. first_refused w above (judged_from p (map said ls))) o)
    ∙ ap (λ ls. option_map (refusal after) (first_fault (end_conditions w ls))) (all_taken w all p left above h o)
    ∙ ap (option_map (refusal after)) e
  where
    found_with : Whole → Option Refusal → List Stated → Option Refusal
    found_with v x ls = elim x [ Some r ↦ Some r | None ↦ option_map (refusal after) (first_fault (end_conditions v ls)) ]

-- ---- what the first walk kept

pub next_kept : {X : Type 0} (xs : List X) (k : ℕ) (x : X) → k < length xs → x ≡ get_or xs k x → drop k xs ≡ x ∷ drop (k + 1) xs
next_kept xs k x h e =
    drop-cons xs k x h ∙ ap (λ z. z ∷ drop (suc k) xs) (sym e) ∙ ap (λ j. x ∷ drop j xs) (sym (add-one k))

-- the first that is kept is the first of the lines that are left
pub first_kept : (p : Place) (left : List Line) (ts below : List StatedLine) (r : Option Refusal) (t : StatedLine)
    → ts ≡ t ∷ below → AreJudged p left ts r
    → (l : Line) × (rest : List Line) × (left ≡ l ∷ rest) × IsStated p l t × AreJudged (place_behind p (judged p (said l))) rest below r
first_kept p left ts below r t e h = go left (subst (λ us. AreJudged p left us r) e h)
  where
    no : t ∷ below ≡ [] → ⊥
    no n = cc

    go : (ls : List Line) → AreJudged p ls (t ∷ below) r
        → (l : Line) × (rest : List Line) × (ls ≡ l ∷ rest) × IsStated p l t × AreJudged (place_behind p (judged p (said l))) rest below r
    go [] g = absurd (no g.0)
    go (l ∷ ls) g = (l, ls, refl, g.0, g.1)

-- where none is kept and none was refused, none is left
pub none_kept : (p : Place) (left : List Line) (ts : List StatedLine) (r : Option Refusal)
    → ts ≡ [] → r ≡ None → AreJudged p left ts r → left ≡ []
none_kept p left ts r e n h = go left (subst (λ us. AreJudged p left us r) e h)
  where
    no : (x : Refusal) → r ≡ Some x → ⊥
    no x s = cc

    go : (ls : List Line) → AreJudged p ls [] r → ls ≡ []
    go [] g = refl
    go (l ∷ ls) g = absurd (no (refusal l.number g.kind) g.told)

-- where none is kept and one was refused, it is the first that is left
pub refusal_kept : (p : Place) (left : List Line) (ts : List StatedLine) (r : Option Refusal) (x : Refusal)
    → ts ≡ [] → r ≡ Some x → AreJudged p left ts r
    → (l : Line) × (rest : List Line) × (left ≡ l ∷ rest) × IsRefused p l (Some x)
refusal_kept p left ts r x e s h = go left (subst (λ us. AreJudged p left us r) e h)
  where
    no : r ≡ None → ⊥
    no n = cc

    go : (ls : List Line) → AreJudged p ls [] r → (l : Line) × (rest : List Line) × (ls ≡ l ∷ rest) × IsRefused p l (Some x)
    go [] g = absurd (no g.1)
    go (l ∷ ls) g = (l, ls, refl, subst (λ o. IsRefused p l o) s g)
