-- The first refusal in a format, found line by line, is what it is said to be.
use Rattle.std.proofs.Common.{◌≡◌, ◌↔◌, ◌⊎◌, inl, inr, ℕ, ◌+◌, Bool, true, false, List, [], ◌∷◌, ◌++◌, length, Option, Some, None, refl, sym, ap, ◌∙◌, subst, append_assoc, append-nil}
use Rattle.std.specs.Prelude.{IsTrue, option_map}
use Rattle.wpds_base.specs.Faults.{first_fault}
use Rattle.wpds_port.specs.declared.Kind.{Kind}
use Rattle.wpds_port.specs.declared.Kind.TheVariants.{TooLong}
use Rattle.wpds_port.specs.declared.Refusal.{Refusal}
use Rattle.wpds_port.specs.Refusals.{refusal}
use Rattle.document_forms.specs.Lines.{lines}
use Rattle.document_forms.specs.Refused.{HasKind, IsLowest, Format, AreAccepted, IsRefusedLine, IsRefusedEnd, is_short, FirstRefusal, first_refused, refusal_in, refusal_of}
use Rattle.document_forms.proofs.LowestLemmas.{rises, lowest_first, none_first}

pub none_split : {Line : Type 0} (above : List Line) (l : Line) (below : List Line) → [] ≡ above ++ l ∷ below → ⊥
none_split [] l below e = cc
none_split (x ∷ above) l below e = cc

module _ {Line : Type 0} (format : Format Line) where
  -- ---- lines behind others

  abbrev pub AcceptedFrom : (pre ls : List Line) → Type 0
  AcceptedFrom pre ls =
      (above : List Line) (l : Line) (below : List Line) → ls ≡ above ++ l ∷ below
      → (k : Kind) → HasKind (format.conditions (pre ++ above) l) k → ⊥

  -- the first line has no kind
  pub first_accepted :
      (pre ls : List Line) (x : Line)
      → AcceptedFrom pre (x ∷ ls) → first_fault (format.conditions pre x) ≡ None
  first_accepted pre ls x h =
      (none_first (format.conditions pre x)).1
      (λ k has. h [] x ls refl k (subst (λ p. HasKind (format.conditions p x) k) (sym (append-nil pre)) has))

  pub further_accepted :
      (pre ls : List Line) (x : Line)
      → AcceptedFrom pre (x ∷ ls) → AcceptedFrom (pre ++ x ∷ []) ls
  further_accepted pre ls x h above l below e k has =
      h (x ∷ above) l below (ap (λ ys. x ∷ ys) e) k
      (subst (λ p. HasKind (format.conditions p l) k) (append_assoc pre (x ∷ []) above) has)

  pub accepted_more :
      (pre ls : List Line) (x : Line)
      → first_fault (format.conditions pre x) ≡ None → AcceptedFrom (pre ++ x ∷ []) ls → AcceptedFrom pre (x ∷ ls)
  accepted_more pre ls x n h [] l below e k has =
      let same : x ≡ l = cc in
      (none_first (format.conditions pre x)).0 n k
      (subst (λ p. HasKind (format.conditions p x) k) (append-nil pre) (subst (λ y. HasKind (format.conditions (pre ++ []) y) k) (sym same) has))
  accepted_more pre ls x n h (y ∷ above) l below e k has =
      let same : x ≡ y = cc in
      let rest : ls ≡ above ++ l ∷ below = cc in
      h above l below rest k
      (subst (λ p. HasKind (format.conditions p l) k) (sym (append_assoc pre (x ∷ []) above))
      (subst (λ z. HasKind (format.conditions (pre ++ z ∷ above) l) k) (sym same) has))

  -- what is found from a line on
  abbrev found_at : (pre ls : List Line) (x : Line) → Option Kind → Option Refusal
  found_at pre ls x o = elim o [
    | Some k ↦ Some (refusal (format.number x) k)
    | None ↦ first_refused format (pre ++ x ∷ []) ls
  ]

  none_refused : (pre ls : List Line) → first_refused format pre ls ≡ None → AcceptedFrom pre ls
  none_refused pre [] h = λ above l below e k has. none_split above l below e
  none_refused pre (x ∷ ls) h =
      go (first_fault (format.conditions pre x)) refl h (none_refused (pre ++ x ∷ []) ls)
    where
      go :
          (o : Option Kind) → first_fault (format.conditions pre x) ≡ o → found_at pre ls x o ≡ None
          → (first_refused format (pre ++ x ∷ []) ls ≡ None → AcceptedFrom (pre ++ x ∷ []) ls)
          → AcceptedFrom pre (x ∷ ls)
      go (Some k) e s more = cc
      go None e s more = accepted_more pre ls x e (more s)

  all_accepted : (pre ls : List Line) → AcceptedFrom pre ls → first_refused format pre ls ≡ None
  all_accepted pre [] h = refl
  all_accepted pre (x ∷ ls) h =
      ap (found_at pre ls x) (first_accepted pre ls x h)
      ∙ all_accepted (pre ++ x ∷ []) ls (further_accepted pre ls x h)

  -- ---- bytes that are accepted

  -- what is found in lines, and of bytes, where the line after the last has this number
  abbrev found_in : (after : ℕ) → List Line → Option Refusal → Option Refusal
  found_in after ls o = elim o [
    | Some q ↦ Some q
    | None ↦ option_map (refusal after) (first_fault (format.missing ls))
  ]

  abbrev found_by : List ℕ → List Line → Bool → Option Refusal
  found_by bytes ls t = elim t [
    | false ↦ Some (refusal 0 TooLong)
    | true ↦ refusal_in format (length (lines bytes) + 1) ls
  ]

  abbrev pub IsAcceptable : List ℕ → List Line → Type 0
  IsAcceptable bytes ls =
      IsTrue (is_short bytes) × AreAccepted format ls × (first_fault (format.missing ls) ≡ None)

  acceptable : (bytes : List ℕ) (ls : List Line) → refusal_of format bytes ls ≡ None → IsAcceptable bytes ls
  acceptable bytes ls h = by_length (is_short bytes) refl h
    where
      by_end : (o : Option Kind) → first_fault (format.missing ls) ≡ o → option_map (refusal (length (lines bytes) + 1)) o ≡ None → first_fault (format.missing ls) ≡ None
      by_end None e s = e
      by_end (Some k) e s = cc

      by_lines : IsTrue (is_short bytes) → (o : Option Refusal) → first_refused format [] ls ≡ o → found_in (length (lines bytes) + 1) ls o ≡ None → IsAcceptable bytes ls
      by_lines t (Some q) e s = cc
      by_lines t None e s = (t, none_refused [] ls e, by_end (first_fault (format.missing ls)) refl s)

      by_length : (t : Bool) → is_short bytes ≡ t → found_by bytes ls t ≡ None → IsAcceptable bytes ls
      by_length false e s = cc
      by_length true e s = by_lines e (first_refused format [] ls) refl s

  -- Nothing is found exactly where all lines are accepted and nothing is missing.
  pub nothing_found : (bytes : List ℕ) (ls : List Line) → (refusal_of format bytes ls ≡ None) ↔ IsAcceptable bytes ls
  nothing_found bytes ls = (
    acceptable bytes ls,
    λ h. ap (found_by bytes ls) h.0 ∙ ap (found_in (length (lines bytes) + 1) ls) (all_accepted [] ls h.1)
        ∙ ap (option_map (refusal (length (lines bytes) + 1))) h.2,
  )

  -- ---- bytes that are refused: where conditions stand in the order of their kinds

  module _ (rise : (above : List Line) (l : Line) → rises 0 (format.conditions above l) ≡ true) (end_rise : (ls : List Line) → rises 0 (format.missing ls) ≡ true) where
    abbrev RefusedFrom : (pre ls : List Line) → Refusal → Type 0
    RefusedFrom pre ls r =
        (above : List Line) × (l : Line) × (below : List Line) × (ls ≡ above ++ l ∷ below)
        × AcceptedFrom pre above × IsLowest (format.conditions (pre ++ above) l) r.kind × (r.line ≡ format.number l)

    refused_line : (pre ls : List Line) (r : Refusal) → first_refused format pre ls ≡ Some r → RefusedFrom pre ls r
    refused_line pre [] r h = cc
    refused_line pre (x ∷ ls) r h =
        go (first_fault (format.conditions pre x)) refl h (refused_line (pre ++ x ∷ []) ls r)
      where
        nothing : AcceptedFrom pre []
        nothing above l below e k has = none_split above l below e

        here : (k : Kind) → first_fault (format.conditions pre x) ≡ Some k → refusal (format.number x) k ≡ r → RefusedFrom pre (x ∷ ls) r
        here k e s = (
          [],
          x,
          ls,
          refl,
          nothing,
          subst (λ p. IsLowest (format.conditions p x) r.kind) (sym (append-nil pre))
              (subst (λ j. IsLowest (format.conditions pre x) j) (ap (λ q. q.kind) s) ((lowest_first (format.conditions pre x) (rise pre x) k).0 e)),
          ap (λ q. q.line) (sym s),
        )

        further : first_fault (format.conditions pre x) ≡ None → RefusedFrom (pre ++ x ∷ []) ls r → RefusedFrom pre (x ∷ ls) r
        further n m = (
          x ∷ m.0,
          m.1,
          m.2,
          ap (λ ys. x ∷ ys) m.3,
          accepted_more pre m.0 x n m.4,
          subst (λ p. IsLowest (format.conditions p m.1) r.kind) (append_assoc pre (x ∷ []) m.0) m.5,
          m.6,
        )

        go :
            (o : Option Kind) → first_fault (format.conditions pre x) ≡ o → found_at pre ls x o ≡ Some r
            → (first_refused format (pre ++ x ∷ []) ls ≡ Some r → RefusedFrom (pre ++ x ∷ []) ls r)
            → RefusedFrom pre (x ∷ ls) r
        go (Some k) e s more = let same : refusal (format.number x) k ≡ r = cc in here k e same
        go None e s more = further e (more s)

    line_refused :
        (pre above : List Line) (l : Line) (below : List Line) (k : Kind)
        → AcceptedFrom pre above → IsLowest (format.conditions (pre ++ above) l) k
        → first_refused format pre (above ++ l ∷ below) ≡ Some (refusal (format.number l) k)
    line_refused pre [] l below k h m =
        ap (found_at pre below l)
        ((lowest_first (format.conditions pre l) (rise pre l) k).1 (subst (λ p. IsLowest (format.conditions p l) k) (append-nil pre) m))
    line_refused pre (x ∷ above) l below k h m =
        ap (found_at pre (above ++ l ∷ below) x) (first_accepted pre above x h)
        ∙ line_refused (pre ++ x ∷ []) above l below k (further_accepted pre above x h)
        (subst (λ p. IsLowest (format.conditions p l) k) (sym (append_assoc pre (x ∷ []) above)) m)

    -- a refused line, found from the first on
    from_first : (ls : List Line) (r : Refusal) → RefusedFrom [] ls r → IsRefusedLine format ls r
    from_first ls r m = record {
      above = m.0;
      line = m.1;
      below = m.2;
      split = m.3;
      accepted = m.4;
      kind = m.5;
      number = m.6;
    }

    found_line : (ls : List Line) (r : Refusal) → IsRefusedLine format ls r → first_refused format [] ls ≡ Some r
    found_line ls r m =
        ap (first_refused format []) m.split
        ∙ line_refused [] m.above m.line m.below r.kind m.accepted m.kind
        ∙ ap (λ n. Some (refusal n r.kind)) (sym m.number)

    abbrev InLines : (after : ℕ) → List Line → Refusal → Type 0
    InLines after ls r = IsRefusedLine format ls r ⊎ IsRefusedEnd format after ls r

    in_lines : (after : ℕ) (ls : List Line) (r : Refusal) → refusal_in format after ls ≡ Some r → InLines after ls r
    in_lines after ls r h = go (first_refused format [] ls) refl h
      where
        end : (o : Option Kind) → first_fault (format.missing ls) ≡ o → first_refused format [] ls ≡ None → option_map (refusal after) o ≡ Some r → InLines after ls r
        end None e n s = cc
        end (Some k) e n s =
            let same : refusal after k ≡ r = cc in
            inr (record {
              accepted = none_refused [] ls n;
              kind = (lowest_first (format.missing ls) (end_rise ls) r.kind).0 (e ∙ ap (λ q. Some q.kind) same);
              number = ap (λ q. q.line) (sym same);
            })

        go : (o : Option Refusal) → first_refused format [] ls ≡ o → found_in after ls o ≡ Some r → InLines after ls r
        go (Some q) e s = inl (from_first ls r (refused_line [] ls r (e ∙ s)))
        go None e s = end (first_fault (format.missing ls)) refl e s

    refused_in : (after : ℕ) (ls : List Line) (r : Refusal) → InLines after ls r → refusal_in format after ls ≡ Some r
    refused_in after ls r (inl m) = ap (found_in after ls) (found_line ls r m)
    refused_in after ls r (inr m) =
        ap (found_in after ls) (all_accepted [] ls m.accepted)
        ∙ ap (option_map (refusal after)) ((lowest_first (format.missing ls) (end_rise ls) r.kind).1 m.kind)
        ∙ ap (λ n. Some (refusal n r.kind)) (sym m.number)

    -- What is found is the first refusal.
    pub first_found : (bytes : List ℕ) (ls : List Line) (r : Refusal) → (refusal_of format bytes ls ≡ Some r) ↔ FirstRefusal format bytes ls r
    first_found bytes ls r = (go (is_short bytes) refl, back)
      where
        go : (t : Bool) → is_short bytes ≡ t → found_by bytes ls t ≡ Some r → FirstRefusal format bytes ls r
        go false e s = let same : refusal 0 TooLong ≡ r = cc in inl (e, sym same)
        go true e s = inr (e, in_lines (length (lines bytes) + 1) ls r s)

        back : FirstRefusal format bytes ls r → refusal_of format bytes ls ≡ Some r
        back (inl m) = ap (found_by bytes ls) m.0 ∙ ap Some (sym m.1)
        back (inr m) = ap (found_by bytes ls) m.0 ∙ refused_in (length (lines bytes) + 1) ls r m.1
