-- The texts of pairs, and the parts in one.
use Rattle.std.proofs.Common.{◌≡◌, ℕ, Bool, true, false, cond, List, [], ◌∷◌, ◌++◌, ◌≤◌, length, Option, None, Some, refl, sym, ap, ap₂, ◌∙◌, append-nil, arith}
use Rattle.std.specs.Prelude.{option_map, MatchOption}
use Rattle.wpds_port.specs.declared.Mark.TheVariants.{Minus, Equal, Comma}
use Rattle.wpds_port.specs.declared.Word.{Word}
use Rattle.wpds_port.specs.declared.Word.TheVariants.{Name, Number, Mark as Sign}
use Rattle.document_forms.specs.Lines.{in_front}
use Rattle.document_forms.specs.Words.{is_comma, before, behind, begins_pair, pairs, parted, each}
use Rattle.document_forms.specs.Weights.{PartForm, OfVariable, OfNumber, PartsForm, PairForm, PairsForm, part_of, parts_of, pair_of, pairs_in, copy_of}
use Rattle.rule_reader.specs.private.PairTexts.{begins_number, up_to_pair, from_pair, pair_texts, some_pairs, parts_in, parts_behind}
use Rattle.rule_reader.proofs.EachLemmas.{each_some, each_none, read_more, others, parted_cut}

-- ---- the parts up to the next pair, behind words that are one part

module _ (pre : List Word) (p : PartForm)
    (one : part_of pre ≡ Some p)
    (none : (w : Word) (us : List Word) → part_of (pre ++ w ∷ us) ≡ None)
    (front : (us : List Word) → before is_comma (pre ++ us) ≡ pre ++ before is_comma us)
    (back : (us : List Word) → behind is_comma (pre ++ us) ≡ behind is_comma us) where
  abbrev read_behind : List Word → Option (List PartForm)
  read_behind us = each part_of ((pre ++ before is_comma us) ∷ others is_comma (behind is_comma us))

  alone : read_behind [] ≡ Some (p ∷ [])
  alone = each_some part_of (pre ++ []) [] p (ap part_of (append-nil pre) ∙ one)

  at_comma : (us : List Word) → read_behind (Sign Comma ∷ us) ≡ option_map (λ ps. p ∷ ps) (each part_of (parted is_comma us))
  at_comma us = each_some part_of (pre ++ []) (parted is_comma us) p (ap part_of (append-nil pre) ∙ one)

  at_other : (t : Bool) (w : Word) (us : List Word) → is_comma w ≡ false → read_behind (cond t [] (w ∷ us)) ≡ cond t (Some (p ∷ [])) None
  at_other true w us h = alone
  at_other false w us h = each_none part_of (pre ++ before is_comma (w ∷ us)) (others is_comma (behind is_comma (w ∷ us)))
      (ap (λ b. part_of (pre ++ cond b [] (w ∷ before is_comma us))) h ∙ none w (before is_comma us))

  at_any : (rest : List Word) → read_behind (up_to_pair rest) ≡ parts_behind p rest
  at_any [] = alone
  at_any (Sign Comma ∷ ws) = at_comma (up_to_pair ws)
  at_any (w ∷ ws) = at_other (begins_pair (w ∷ ws)) w (up_to_pair ws) refl

  pub part_first : (rest : List Word) → each part_of (parted is_comma (pre ++ up_to_pair rest)) ≡ parts_behind p rest
  part_first rest =
      ap (each part_of)
      (parted_cut is_comma (pre ++ up_to_pair rest)
      ∙ ap₂ (λ x y. x ∷ others is_comma y) (front (up_to_pair rest)) (back (up_to_pair rest)))
      ∙ at_any rest

-- ---- the first part

pub variable_first : (ws : List Word) (x : List ℕ) (rest : List Word) → ws ≡ Name x ∷ rest → begins_pair ws ≡ false → parts_in ws ≡ parts_behind (OfVariable x) rest
variable_first ws x rest e h =
    ap parts_in e
    ∙ ap (λ b. each part_of (parted is_comma (cond b [] (Name x ∷ up_to_pair rest)))) (ap begins_pair (sym e) ∙ h)
    ∙ part_first (Name x ∷ []) (OfVariable x) refl (λ w us. refl) (λ us. refl) (λ us. refl) rest

pub number_first : (ws : List Word) (n : List ℕ) (rest : List Word) → ws ≡ Number n ∷ rest → parts_in ws ≡ parts_behind (OfNumber false n) rest
number_first ws n rest e =
    ap parts_in e
    ∙ part_first (Number n ∷ []) (OfNumber false n) refl (λ w us. refl) (λ us. refl) (λ us. refl) rest

pub negative_first : (ws vs : List Word) (n : List ℕ) (rest : List Word) → ws ≡ Sign Minus ∷ vs → vs ≡ Number n ∷ rest → parts_in ws ≡ parts_behind (OfNumber true n) rest
negative_first ws vs n rest e f =
    ap parts_in (e ∙ ap (λ x. Sign Minus ∷ x) f)
    ∙ part_first (Sign Minus ∷ Number n ∷ []) (OfNumber true n) refl (λ w us. refl) (λ us. refl) (λ us. refl) rest

-- nothing is read where the first piece is no part
no_part : (us : List Word) → part_of (before is_comma us) ≡ None → each part_of (parted is_comma us) ≡ None
no_part us h = ap (each part_of) (parted_cut is_comma us) ∙ each_none part_of (before is_comma us) (others is_comma (behind is_comma us)) h

pub minus_first : (ws vs : List Word) → ws ≡ Sign Minus ∷ vs → begins_number vs ≡ false → parts_in ws ≡ None
minus_first ws vs e h = ap parts_in e ∙ no_part (Sign Minus ∷ up_to_pair vs) (go vs h)
  where
    cut : (t : Bool) (w : Word) (us : List Word) → part_of (Sign Minus ∷ before is_comma (w ∷ us)) ≡ None → part_of (Sign Minus ∷ before is_comma (cond t [] (w ∷ us))) ≡ None
    cut true w us k = refl
    cut false w us k = k

    go : (vs : List Word) → begins_number vs ≡ false → part_of (Sign Minus ∷ before is_comma (up_to_pair vs)) ≡ None
    go [] h = refl
    go (Number n ∷ vs) h = cc
    go (Name x ∷ vs) h = cut (begins_pair (Name x ∷ vs)) (Name x) (up_to_pair vs) refl
    go (Sign m ∷ vs) h = mark (is_comma (Sign m))
      where
        mark : (t : Bool) → part_of (Sign Minus ∷ cond t [] (Sign m ∷ before is_comma (up_to_pair vs))) ≡ None
        mark true = refl
        mark false = refl

-- ---- pairs

pub pairs_cut : (ws : List Word) → pairs ws ≡ up_to_pair ws ∷ pair_texts (from_pair ws)
pairs_cut [] = refl
pairs_cut (w ∷ ws) = go (begins_pair (w ∷ ws)) (pairs_cut ws)
  where
    go :
        (t : Bool) → pairs ws ≡ up_to_pair ws ∷ pair_texts (from_pair ws)
        → cond t ([] ∷ in_front w (pairs ws)) (in_front w (pairs ws))
        ≡ cond t [] (w ∷ up_to_pair ws) ∷ pair_texts (cond t (w ∷ ws) (from_pair ws))
    go true e = refl
    go false e = ap (in_front w) e

pub all_pairs : (ws : List Word) → copy_of ws ≡ option_map (λ more. PairsForm ([] ++ more)) (some_pairs ws)
all_pairs [] = refl
all_pairs (w ∷ ws) = go (begins_pair (w ∷ ws)) (pairs ws) (pairs_cut ws)
  where
    go :
        (t : Bool) (ps : List (List Word)) → ps ≡ up_to_pair ws ∷ pair_texts (from_pair ws)
        → pairs_in (cond t ([] ∷ in_front w ps) (in_front w ps))
        ≡ option_map (λ more. PairsForm ([] ++ more)) (cond t (each pair_of (in_front w ps)) None)
    go true [] e = cc
    go true (p ∷ ps) e = refl
    go false [] e = cc
    go false (p ∷ ps) e = refl

pub pair_cut : (ws : List Word) (x : List ℕ) (text : List Word) → ws ≡ Name x ∷ Sign Equal ∷ text → some_pairs ws ≡ each pair_of ((Name x ∷ Sign Equal ∷ up_to_pair text) ∷ pair_texts (from_pair text))
pair_cut ws x text e = ap some_pairs e ∙ ap (λ ps. each pair_of (in_front (Name x) (in_front (Sign Equal) ps))) (pairs_cut text)

pub pair_more : (ws : List Word) (x : List ℕ) (text : List Word) (form : PartsForm) → ws ≡ Name x ∷ Sign Equal ∷ text → parts_of (up_to_pair text) ≡ Some form
    → some_pairs ws ≡ option_map (λ more. record { variable = x; parts = form } ∷ more) (each pair_of (pair_texts (from_pair text)))
pair_more ws x text form e f =
    pair_cut ws x text e
    ∙ each_some pair_of (Name x ∷ Sign Equal ∷ up_to_pair text) (pair_texts (from_pair text)) (record { variable = x; parts = form }) (ap (option_map (λ p. record { variable = x; parts = p })) f)

pub pair_none : (ws : List Word) (x : List ℕ) (text : List Word) → ws ≡ Name x ∷ Sign Equal ∷ text → parts_of (up_to_pair text) ≡ None → some_pairs ws ≡ None
pair_none ws x text e f =
    pair_cut ws x text e
    ∙ each_none pair_of (Name x ∷ Sign Equal ∷ up_to_pair text) (pair_texts (from_pair text)) (ap (option_map (λ p. record { variable = x; parts = p })) f)

-- where words are left behind a pair, they begin with one
pub begins_again : (ws : List Word) (w : Word) (vs : List Word) → from_pair ws ≡ w ∷ vs → begins_pair (w ∷ vs) ≡ true
begins_again [] w vs e = cc
begins_again (u ∷ ws) w vs e = go (begins_pair (u ∷ ws)) refl e (begins_again ws w vs)
  where
    go : (t : Bool) → begins_pair (u ∷ ws) ≡ t → cond t (u ∷ ws) (from_pair ws) ≡ w ∷ vs → (from_pair ws ≡ w ∷ vs → begins_pair (w ∷ vs) ≡ true) → begins_pair (w ∷ vs) ≡ true
    go true h e more = sym (ap begins_pair e) ∙ h
    go false h e more = more e

pub minus_cases : {A : Type 0} (part : A → PartForm) (rest : A → List Word) (ws vs : List Word) (r : Option A) → ws ≡ Sign Minus ∷ vs
    → MatchOption r (begins_number vs ≡ false) (λ a. (n : List ℕ) × (vs ≡ Number n ∷ rest a) × (part a ≡ OfNumber true n))
    → MatchOption r (parts_in ws ≡ None) (λ a. parts_in ws ≡ parts_behind (part a) (rest a))
minus_cases part rest ws vs None e h = minus_first ws vs e h
minus_cases part rest ws vs (Some a) e h = negative_first ws vs h.0 (rest a) e h.1 ∙ ap (λ p. parts_behind p (rest a)) (sym h.2)

pub from_shorter : (ws : List Word) → length (from_pair ws) ≤ length ws
from_shorter [] = omega arith
from_shorter (w ∷ ws) = go (begins_pair (w ∷ ws)) (from_shorter ws)
  where
    go : (t : Bool) → length (from_pair ws) ≤ length ws → length (cond t (w ∷ ws) (from_pair ws)) ≤ length (w ∷ ws)
    go true e = omega arith
    go false e = omega arith

-- ---- pairs that were read, and one more

module _ (ws left : List Word) (done : List PairForm) (x : List ℕ) (text : List Word) (form : PartsForm) (rest : List Word)
    (read : copy_of ws ≡ option_map (λ more. PairsForm (done ++ more)) (some_pairs left))
    (here : left ≡ Name x ∷ Sign Equal ∷ text)
    (parts : parts_of (up_to_pair text) ≡ Some form)
    (behind : rest ≡ from_pair text) where
  abbrev pair_read : PairForm
  pair_read = record { variable = x; parts = form }

  pairs_more : copy_of ws ≡ option_map (λ more. PairsForm ((done ++ pair_read ∷ []) ++ more)) (each pair_of (pair_texts rest))
  pairs_more =
      read
      ∙ ap (option_map (λ more. PairsForm (done ++ more))) (pair_more left x text form here parts)
      ∙ read_more PairsForm done pair_read (each pair_of (pair_texts (from_pair text)))
      ∙ ap (λ us. option_map (λ more. PairsForm ((done ++ pair_read ∷ []) ++ more)) (each pair_of (pair_texts us))) (sym behind)

  pub pairs_end : rest ≡ [] → copy_of ws ≡ Some (PairsForm (done ++ pair_read ∷ []))
  pairs_end e =
      pairs_more
      ∙ ap (λ us. option_map (λ more. PairsForm ((done ++ pair_read ∷ []) ++ more)) (each pair_of (pair_texts us))) e
      ∙ ap (λ l. Some (PairsForm l)) (append-nil (done ++ pair_read ∷ []))

  pub pairs_go_on : (w : Word) (vs : List Word) → rest ≡ w ∷ vs → copy_of ws ≡ option_map (λ more. PairsForm ((done ++ pair_read ∷ []) ++ more)) (some_pairs rest)
  pairs_go_on w vs e =
      let begins : begins_pair rest ≡ true = ap begins_pair e ∙ begins_again text w vs (sym behind ∙ e) in
      pairs_more
      ∙ ap (λ b. option_map (λ more. PairsForm ((done ++ pair_read ∷ []) ++ more)) (cond b (each pair_of (pair_texts rest)) None)) (sym begins)
