-- A path that leads through links, held as frames: nothing is composed, each frame says which text stands there and how
-- much of it is used. Three words a frame are enough, whatever the lengths of texts. Frames past the list's end are
-- read as zeros, so every list and every count of frames hold a path. It relies on what a row says of a link
-- (`lookup`) and on the joins of `path`.
use Rattle.std.specs.Prelude.{ℕ, zero, suc, ◌+◌, ◌-◌, ◌*◌, ◌/◌, ◌%◌, ◌^◌, ◌<◌, Bool, cond, ◌&&◌, List, [], ◌++◌, eqb}
use Rattle.std.specs.Prelude.{leb, ltb, length, get_or, take, drop, replicate}
use Rattle.lists.specs.Lists.{equal}
use Rattle.path.specs.Join.{appended}
use Rattle.lookup.specs.Lookup.{covers}
use Rattle.lookup.specs.private.Rows.{row_text, row_branch}
use Rattle.tables.specs.declared.lent.Lent.{Lent}
use Rattle.rope.specs.declared.lead.Lead.{Lead}
use Rattle.rope.specs.declared.frame.Path.{Path}
use Rattle.rope.specs.declared.place.Place.{Place}
use Rattle.rope.specs.declared.bytes.Bytes.{Bytes}

-- ---- the texts by which links lead

-- the text of a lead
abbrev pub led_text : List ℕ → List ℕ → List ℕ → Lead → List ℕ
led_text rows dirs text t =
    cond t.from_directory (appended (row_branch rows dirs text t.file) (row_text rows text t.file))
    (row_text rows text t.file)

-- the lead that a number is read as: the link of file v / 4, by its text as it was given where v % 4 is below 2, else
-- by the text from the link's directory
abbrev pub lead_read : ℕ → Lead
lead_read v = record { file = v / 4; from_directory = leb 2 (v % 4) }

-- text v is that of this lead
unfoldable pub leads : List ℕ → List ℕ → List ℕ → ℕ → List ℕ
leads rows dirs text v = led_text rows dirs text (lead_read v)

abbrev pub text_of : Lent → Lead → List ℕ
text_of l = led_text l.rows.now l.dirs.now l.text.now

-- those of lent tables as a value
abbrev pub texts_of : Lent → ℕ → List ℕ
texts_of l = leads l.rows.now l.dirs.now l.text.now

-- ---- frames

-- frame k: word 3 k is its text's number, doubled, and 1 more where a separator follows the text; the other two are the
-- low and the high half of its start, where the unused part of the text begins
abbrev pub frame_width : ℕ
frame_width = 3

abbrev pub half_word : ℕ
half_word = 4294967296

abbrev pub kind : List ℕ → ℕ → ℕ
kind frames k = get_or frames (k * frame_width) 0

unfoldable pub start : List ℕ → ℕ → ℕ
start frames k = get_or frames (k * frame_width + 1) 0 + get_or frames (k * frame_width + 2) 0 * half_word

-- what is left of its text, and then the separator, which stays as long as the frame does
abbrev pub unused : (ℕ → List ℕ) → List ℕ → ℕ → List ℕ
unused t frames k = drop (start frames k) (t (kind frames k / 2))

unfoldable pub segment : (ℕ → List ℕ) → List ℕ → ℕ → List ℕ
segment t frames k = unused t frames k ++ replicate (kind frames k % 2) 47

-- the path that the first n frames hold, with the texts t; the last of them is its front
unfoldable pub flat : (ℕ → List ℕ) → List ℕ → ℕ → List ℕ
flat t frames zero = []
flat t frames (suc k) = segment t frames k ++ flat t frames k

-- the place of byte j in it: the number of frames that are left there, and of their bytes that are passed; no frame is
-- passed whole
unfoldable pub place_in : (ℕ → List ℕ) → List ℕ → ℕ → ℕ → Place
place_in t frames zero j = record { k = 0; at = j }
place_in t frames (suc k) j =
    cond (ltb j (length (segment t frames k))) (record { k = suc k; at = j })
    (place_in t frames k (j - length (segment t frames k)))

-- that path with the texts of the lent tables
abbrev pub held_path : List ℕ → List ℕ → List ℕ → List ℕ → ℕ → List ℕ
held_path rows dirs text frames depth = flat (leads rows dirs text) frames depth

-- the path that the first k frames of a record hold, and the path that the record means
abbrev pub held_to : Path → ℕ → List ℕ
held_to p k = held_path p.lent.rows.now p.lent.dirs.now p.lent.text.now p.frames.now k

abbrev pub held : Path → List ℕ
held p = held_to p p.depth

-- what is left of the bytes from a place on
abbrev pub bytes_left : Bytes → List ℕ
bytes_left b = drop b.from.at (held_to b.path b.from.k)

-- a place where a byte stands, in its front frame, unless no frame is left there
pub record Stands (p : Path) (q : Place) : Type 0 where
  pub there : 0 < q.k → q.at < length (segment (texts_of p.lent) p.frames.now (q.k - 1))
  pub small : 0 < q.k → start p.frames.now (q.k - 1) + q.at < 2 ^ 64

-- ---- the front of a path

-- its first e bytes
abbrev pub front : List ℕ → List ℕ → List ℕ → List ℕ → ℕ → ℕ → List ℕ
front rows dirs text frames depth e = take e (held_path rows dirs text frames depth)

-- t is the first e bytes of the path p
abbrev pub is_front : List ℕ → List ℕ → ℕ → Bool
is_front t p e = eqb (length t) e && equal t (take e p)

-- the path p has e bytes, and the directory d covers them
abbrev pub covers_front : List ℕ → List ℕ → ℕ → Bool
covers_front d p e = leb e (length p) && covers d (take e p)
