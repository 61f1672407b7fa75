-- What is read of a query.
use Rattle.std.specs.Prelude.{◌≡◌, ℕ, Bool, false, ◌||◌, List, [], ◌∷◌, ◌++◌, Option, None, Some, MatchOption}
use Rattle.wpds_port.specs.declared.Word.{Word}
use Rattle.document_forms.specs.Names.{has_unknown}
use Rattle.document_forms.specs.Patterns.{PatternForm, pattern_of}
use Rattle.document_forms.specs.Forms.{OfQuery, query_of}
use Rattle.document_forms.specs.Kinds.{pattern_symbols, has_symbol_twice, is_large}
use Rattle.document_forms.specs.Documents.{pattern_value}
use Rattle.document_reader.specs.declared.patterns.QueryFaults.{QueryFaults}
use Rattle.document_reader.specs.declared.patterns.PatternRead.{PatternRead}
use Rattle.document_reader.specs.declared.queries.QueryRead.{QueryRead}

-- something is amiss
abbrev pub is_amiss : QueryFaults → Bool
is_amiss f = f.twice || f.unknown || f.count

-- ---- patterns

-- What is read is this pattern: what is amiss with it, and its value where nothing is.
pub record IsPatternRead
    (all : ℕ) (controls symbols : List (List ℕ)) (p : PatternForm) (r : PatternRead) : Type 0 where
  pub twice : r.faults.twice ≡ has_symbol_twice p
  pub unknown : r.faults.unknown
      ≡ (has_unknown controls (p.control ∷ []) || has_unknown symbols (pattern_symbols p))
  pub count : r.faults.count ≡ is_large all p
  pub value : is_amiss r.faults ≡ false → r.pattern ≡ pattern_value controls symbols p

-- Words are read as a pattern, exactly where they are one.
abbrev pub IsPatternOf :
    ℕ → (controls symbols : List (List ℕ)) → List Word → Option PatternRead → Type 0
IsPatternOf all controls symbols ws result = MatchOption result (pattern_of ws ≡ None)
    (λ r. (p : PatternForm) × (pattern_of ws ≡ Some p) × IsPatternRead all controls symbols p r)

-- ---- queries

-- What is read is the query from one pattern to another: what is amiss with it, and its value where
-- nothing is.
pub record IsQueryFrom
    (all : ℕ) (controls symbols : List (List ℕ)) (p q : PatternForm) (r : QueryRead) : Type 0 where
  pub twice : r.faults.twice ≡ (has_symbol_twice p || has_symbol_twice q)
  pub unknown : r.faults.unknown
      ≡ (
      has_unknown controls (p.control ∷ q.control ∷ [])
      || has_unknown symbols (pattern_symbols p ++ pattern_symbols q)
      )
  pub count : r.faults.count ≡ (is_large all p || is_large all q)
  pub from : is_amiss r.faults ≡ false → r.query.from ≡ pattern_value controls symbols p
  pub to : is_amiss r.faults ≡ false → r.query.to ≡ pattern_value controls symbols q

-- Words are read as a query, exactly where they are one.
abbrev pub IsQueryRead :
    ℕ → (controls symbols : List (List ℕ)) → List Word → Option QueryRead → Type 0
IsQueryRead all controls symbols ws result = MatchOption result (query_of ws ≡ None)
    (λ r. (p q : PatternForm) × (query_of ws ≡ Some (OfQuery p q))
    × IsQueryFrom all controls symbols p q r)
