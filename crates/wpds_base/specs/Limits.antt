-- The limits of the formats. Each number stands here and nowhere else.
use Rattle.std.specs.Prelude.{ℕ}

-- bytes of a document
abbrev pub most_bytes : ℕ
most_bytes = 4194304

-- bytes of a name
abbrev pub longest_name : ℕ
longest_name = 64

abbrev pub most_controls : ℕ
most_controls = 1000

abbrev pub most_symbols : ℕ
most_symbols = 40000

abbrev pub most_rules : ℕ
most_rules = 130000

-- symbols that a rule may leave on top
abbrev pub most_pushed : ℕ
most_pushed = 2

-- symbols on a right side where rules are wide
abbrev pub longest_right : ℕ
longest_right = 8

abbrev pub most_queries : ℕ
most_queries = 1000

-- items of a pattern
abbrev pub most_items : ℕ
most_items = 1000

-- edges of the automaton of a pattern
abbrev pub most_edges : ℕ
most_edges = 1000000

-- the cap of a cost, so that no sum of two passes 64 bits
abbrev pub most_cost : ℕ
most_cost = 1000000000000000000

-- facts of gen-kill weights
abbrev pub most_facts : ℕ
most_facts = 1024

-- variables of copy constants
abbrev pub most_copied : ℕ
most_copied = 64

-- variables of relations
abbrev pub most_related : ℕ
most_related = 24

-- the numbers of tables of two and of three places
abbrev pub most_table2 : ℕ
most_table2 = 15

abbrev pub most_table3 : ℕ
most_table3 = 255

-- how deep an expression is at most
abbrev pub most_depth : ℕ
most_depth = 64

-- seats at a book, one for each worker
abbrev pub most_seats : ℕ
most_seats = 64

-- rungs of a ladder
abbrev pub most_rungs : ℕ
most_rungs = 10000

-- the size of the runs that are written: of each the number of its rules, and one more
abbrev pub most_traced : ℕ
most_traced = 100000
