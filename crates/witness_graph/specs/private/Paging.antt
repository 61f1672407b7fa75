-- Places of numbers, on pages.
use Rattle.std.specs.Prelude.{ℕ, ◌/◌, ◌%◌, List, [], Option, None, slice_index_or}

-- how many numbers share a page
abbrev pub page_size : ℕ
page_size = 1024

-- what is marked in a slot, and nothing past the end
abbrev pub mark_at : List (Option ℕ) → ℕ → Option ℕ
mark_at marks i = slice_index_or marks i None

-- a page, an empty one past the end
abbrev pub page_at : List (List (Option ℕ)) → ℕ → List (Option ℕ)
page_at pages p = slice_index_or pages p []

-- the place of a number
abbrev pub place_on : List (List (Option ℕ)) → ℕ → Option ℕ
place_on pages k = mark_at (page_at pages (k / page_size)) (k % page_size)
