-- What a set of symbols stands for.
use Rattle.std.proofs.Common.{◌≡◌, ℕ, ◌<◌, List, Vec, Global, length, get_or, sym, ap, subst, ◌∙◌}
use Rattle.std.specs.Prelude.{Some, slice_get}
use Rattle.std.specs.List.{range_with_len}
use Rattle.std.proofs.lemmas.Option.{slice_get-get_or}
use Rattle.std.proofs.lemmas.List.FromFn.{length-range_with_len}
use Rattle.config_patterns.specs.declared.symbol_set.Symbols.{Symbols}
use Rattle.config_patterns.specs.declared.symbol_set.Symbols.TheVariants.{All, Listed}
use Rattle.config_patterns.specs.private.Symbols.{symbols_of}
use Rattle.config_patterns.proofs.RangeLemmas.{at_all}

module _ (s : Symbols) (value : List ℕ) (count : ℕ) (view : symbols_of s ≡ value) (is : s ≡ All count) where
  pub all_is : value ≡ range_with_len 0 count
  all_is = sym view ∙ ap symbols_of is

  pub all_length : count ≡ length value
  all_length = sym (length-range_with_len 0 count) ∙ ap length (sym all_is)

  pub all_at : (k : ℕ) → k < length value → slice_get value k ≡ Some k
  all_at k low = subst (λ xs. slice_get xs k ≡ Some k) (sym all_is) (at_all count k (subst (λ xs. k < length xs) all_is low))

pub listed_at : (s : Symbols) (value : List ℕ) (v : Vec ℕ Global) → symbols_of s ≡ value → s ≡ Listed v → (k x : ℕ) → k < length value → x ≡ get_or v.items k x
    → slice_get value k ≡ Some x
listed_at s value v view is k x low at =
    let same : v.items ≡ value = ap symbols_of (sym is) ∙ view in
    subst (λ xs. slice_get xs k ≡ Some x) same (slice_get-get_or v.items k x (subst (λ xs. k < length xs) (sym same) low) ∙ ap Some (sym at))
