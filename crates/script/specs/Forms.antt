-- docs/CALLS.md, the column 'call': the form of a call is its name and a word for each of its values, as in
-- `map_file I OFFSET SIZE`. 46 is `.`.
use Rattle.std.specs.Prelude.{ℕ, ◌-◌, Bool, ◌&&◌, ◌||◌, List, eqb, leb, length, get_or}
use Rattle.lists.specs.Lists.{equal}
use Rattle.script.specs.Words.{word_of, word_count}

-- a form that ends with a dot allows any number of words
abbrev pub is_left_open : List ℕ → Bool
is_left_open form = eqb (get_or form (length form - 1) 0) 46

-- the line begins with the call's name, and has no more words than the form
abbrev pub has_form : List ℕ → List ℕ → Bool
has_form line form =
    equal (word_of line 0) (word_of form 0) && (is_left_open form || leb (word_count line) (word_count form))
