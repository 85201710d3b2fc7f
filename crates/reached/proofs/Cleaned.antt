-- A cleaning of tables in order: they stay in order, and mean what document 01 says of the cleaning; no text that is to be
-- written lacks its place. It relies on Cleaned/Run.antt and Cleaned/Verdicts.antt.
--     sound-cleaned, view-cleaned    the tables after it, where there is room and work space enough
--     needed-is                      the text needed is that of the set after it
pub mod Answer
pub mod Files
pub mod Texts
pub mod Step
pub mod Run
pub mod Verdicts
pub mod Lent
use mathlib.Core.Path.{◌≡◌, refl, sym, ap, subst, ◌∙◌}
use mathlib.Core.Bool.{true, false≢true}
use mathlib.Core.List.{List, map}
use Prim.Native.Nat.{ℕ, ◌+◌, ◌≤◌, ◌<◌}
use native.Mathlib.Nat.{zero-add}
use native.Mathlib.Omega.{arith}
use lib.ListN.{length}
use Rattle.lists.specs.Lists.{sum}
use Rattle.tables.specs.declared.storage.FileStorage.{FileStorage}
use Rattle.tables.specs.Model.{File, Store, tabled, file_of, view_of}
use Rattle.tables.proofs.Tabled.{length-tabled, tabled-same}
use Rattle.additions.specs.Addition.{file_text, text_of}
use Rattle.lookup.specs.Lookup.{Entry, entry_of, is_held, entries_of, directories_of}
use Rattle.links.specs.Clean.{clean_file, cleaned_of}
use Rattle.lookup.specs.Space.{space}
use Rattle.links.specs.declared.mark.LinkVerdict.{LinkVerdict}
use Rattle.links.specs.declared.mark.LinkVerdict.TheVariants.{Keep, OwnPath, FromDirectory}
use Rattle.links.specs.Judging.{verdict_read, verdict_of, text_by}
use Rattle.cleaning.specs.Cleaning.{file_verdicts, emptied, cleaned_store, text_needed}
use Rattle.sound.specs.Sound.{sum_to, Sound}
use Rattle.sound.proofs.Common.{sum-tabled}
use Rattle.sound.proofs.Files.{map-tabled}
use Rattle.sound.proofs.Texts.{text-is}
use Rattle.reached.proofs.Cleaned.Files.{held-flagged}
use Rattle.reached.proofs.Cleaned.Texts.{Turned, turned_then, turned-view}
use Rattle.reached.proofs.Cleaned.Run.{changes, is_own, is_beside, verdict_in, text_length, amount, amount-same, emptied_file, freed, Passed, emptied-turned, rewritten_file, grown, rewritten-turned}
use Rattle.reached.proofs.Cleaned.Verdicts.{length-file-verdicts, verdict, verdict-at, verdict-flagged, given-file, length-held, cleaned-file, replaced, new, longer, amount-two, amount-sum, sum-from, sum-two, balance, new-bytes, kept-after, replaced-used, beside-short, space-at}

-- ---- the tables after a cleaning

module _ (s : Store) (ok : Sound s) where
  abbrev vs : List LinkVerdict
  vs = file_verdicts s

  abbrev files : List Entry
  files = entries_of s

  abbrev dirs : List (List ℕ)
  dirs = directories_of s

  abbrev n : ℕ
  n = s.fs.num_files

  -- the verdicts of the set's files
  count : length vs ≡ n
  count = length-file-verdicts files dirs files ∙ length-tabled n (λ i. entry_of (file_of s i))

  verdict-is : (k : ℕ) → k < n → verdict_in vs 0 k ≡ verdict files dirs (entry_of (file_of s k))
  verdict-is k h = rw (zero-add k) at (verdict-at files dirs n (λ i. entry_of (file_of s i)) 0 k h)

  flagged : (k : ℕ) → k < n → changes (verdict_in vs 0 k) ≡ true → (entry_of (file_of s k)).flagged ≡ true
  flagged k h e =
      verdict-flagged (entry_of (file_of s k)).flagged (verdict_read (verdict_of files dirs (entry_of (file_of s k)))) (ap changes (sym (verdict-is k h)) ∙ e)

  held : (k : ℕ) → k < n → changes (verdict_in vs 0 k) ≡ true → is_held (file_of s k).link ≡ true
  held k h e = held-flagged (file_of s k) (flagged k h e)

  own-changes : (v : LinkVerdict) → is_own v ≡ true → changes v ≡ true
  own-changes Keep e = e
  own-changes OwnPath e = refl
  own-changes FromDirectory e = refl

  amount-all : (w : LinkVerdict → Entry → ℕ) → amount w vs 0 s ≡ sum_to n (λ k. w (verdict_in vs 0 k) (entry_of (file_of s k)))
  amount-all w =
      let z : 0 + length vs ≡ n = omega (arith, count) in
      let e = amount-sum w (λ k. w (verdict_in vs 0 k) (entry_of (file_of s k))) vs 0 s (λ k a b. refl) in
      sum-from (amount w vs 0 s) n (λ k. w (verdict_in vs 0 k) (entry_of (file_of s k))) (rw z at e)

  -- the tables between the two passes
  abbrev between : Store
  between = emptied vs 0 s

  first : Passed s between (λ k. emptied_file (verdict_in vs 0 k)) (amount freed vs 0 s) 0
  first =
      emptied-turned vs 0 s ok (omega (arith, count)) (λ k a b e. held k (omega (arith, count)) (own-changes (verdict_in vs 0 k) e))

  same_count : between.fs.num_files ≡ n
  same_count = ap (λ (x : FileStorage). x.num_files) first.turned.record_is

  file-between : (k : ℕ) → k < 0 + length vs → file_of between k ≡ emptied_file (verdict_in vs 0 k) (file_of s k)
  file-between k b = first.turned.files k (omega (arith, count))

  grown-between : (v : LinkVerdict) (f : File) → grown v (entry_of (emptied_file v f)) ≡ longer v (entry_of f)
  grown-between Keep f = refl
  grown-between OwnPath f = omega arith
  grown-between FromDirectory f = refl

  growth : amount grown vs 0 between ≡ amount longer vs 0 s
  growth =
      amount-same grown longer vs 0 between s (λ k a b. ap (λ (f : File). grown (verdict_in vs 0 k) (entry_of f)) (file-between k b) ∙ grown-between (verdict_in vs 0 k) (file_of s k))

  -- what is used in the end is what is needed
  needed : between.fs.text_len + amount grown vs 0 between ≡ text_needed s
  needed =
      omega (
        arith,
        growth,
        first.used,
        amount-two new freed longer replaced balance vs 0 s,
        replaced-used s ok vs count,
        kept-after s ok vs 0 s.fs.text_len (omega (arith, count)),
        new-bytes vs 0 s,
      )

  -- what the second pass asks of them
  held-between : (k : ℕ) → 0 ≤ k → k < 0 + length vs → changes (verdict_in vs 0 k) ≡ true → is_held (file_of between k).link ≡ true
  held-between k a b e = ap (λ (f : File). is_held f.link) (file-between k b) ∙ at (verdict_in vs 0 k) (held k (omega (arith, count)) e)
    where
      at : (v : LinkVerdict) → is_held (file_of s k).link ≡ true → is_held (emptied_file v (file_of s k)).link ≡ true
      at Keep h = h
      at OwnPath h = refl
      at FromDirectory h = h

  bare-between : (k : ℕ) → 0 ≤ k → k < 0 + length vs → is_own (verdict_in vs 0 k) ≡ true → text_length between k ≡ 0
  bare-between k a b e = ap (λ (f : File). length (entry_of f).text) (file-between k b) ∙ at (verdict_in vs 0 k) e
    where
      at : (v : LinkVerdict) → is_own v ≡ true → length (entry_of (emptied_file v (file_of s k))).text ≡ 0
      at Keep q = absurd (false≢true q)
      at OwnPath q = refl
      at FromDirectory q = absurd (false≢true q)

  -- both passes do to the files what the cleaning does
  files-cleaned : tabled n (λ k. rewritten_file (verdict_in vs 0 k) (emptied_file (verdict_in vs 0 k) (file_of s k))) ≡ (cleaned_of (view_of s)).files
  files-cleaned =
      tabled-same n (λ k. rewritten_file (verdict_in vs 0 k) (emptied_file (verdict_in vs 0 k) (file_of s k))) (λ k. clean_file files dirs (file_of s k))
      (λ k h. ap (λ (v : LinkVerdict). rewritten_file v (emptied_file v (file_of s k))) (verdict-is k h) ∙ cleaned-file files dirs (file_of s k))
      ∙ sym (map-tabled (clean_file files dirs) n (file_of s))
      ∙ ap (λ (es : List Entry). map (clean_file es dirs) (tabled n (file_of s))) (sym (map-tabled entry_of n (file_of s)))

  -- ---- the text needed

  abbrev file_after : ℕ → File
  file_after k = rewritten_file (verdict_in vs 0 k) (emptied_file (verdict_in vs 0 k) (file_of s k))

  -- a file's texts, with the new text instead of the old
  text-of : (k : ℕ) → k < n → file_text (file_after k) + replaced (verdict_in vs 0 k) (entry_of (file_of s k)) ≡ file_text (file_of s k) + new (verdict_in vs 0 k) (entry_of (file_of s k))
  text-of k h = at (verdict_in vs 0 k) (held k h)
    where
      at : (v : LinkVerdict) → (changes v ≡ true → is_held (file_of s k).link ≡ true)
          → file_text (rewritten_file v (emptied_file v (file_of s k))) + replaced v (entry_of (file_of s k)) ≡ file_text (file_of s k) + new v (entry_of (file_of s k))
      at Keep e = refl
      at OwnPath e =
          ap (λ (f : File). file_text f + text_length s k) (given-file OwnPath (file_of s k) (e refl)) ∙ omega (arith, length-held (file_of s k).link)
      at FromDirectory e =
          ap (λ (f : File). file_text f + text_length s k) (given-file FromDirectory (file_of s k) (e refl)) ∙ omega (arith, length-held (file_of s k).link)

  -- 'Text needed is the sum of the set's name and all names, directories and link texts held after the call'
  pub needed-is : text_needed s ≡ text_of (cleaned_of (view_of s))
  needed-is =
      omega (
        arith,
        text-is s ok,
        kept-after s ok vs 0 s.fs.text_len (omega (arith, count)),
        new-bytes vs 0 s,
        replaced-used s ok vs count,
        amount-all replaced,
        amount-all new,
        ap (λ (fs : List File). sum (map file_text fs)) files-cleaned,
        sum-tabled file_text n file_after,
        sum-tabled file_text n (file_of s),
        sum-two n (λ k. file_text (file_after k)) (λ k. replaced (verdict_in vs 0 k) (entry_of (file_of s k))) (λ k. file_text (file_of s k)) (λ k. new (verdict_in vs 0 k) (entry_of (file_of s k))) text-of,
      )

  -- ---- where there is room and work space enough

  module _ (m : ℕ) (room : text_needed s ≤ length s.text) (work : space (entries_of s) ≤ m) where
    short-between : (k : ℕ) → 0 ≤ k → k < 0 + length vs → is_beside (verdict_in vs 0 k) ≡ true → length (text_by (verdict_in vs 0 k) (entry_of (file_of between k))) ≤ m
    short-between k a b e =
        subst (λ (x : File). length (text_by (verdict_in vs 0 k) (entry_of x)) ≤ m) (sym (file-between k b)) (at (verdict_in vs 0 k) e (flagged k h))
      where
        h : k < n
        h = omega (arith, count)

        at : (v : LinkVerdict) → is_beside v ≡ true → (changes v ≡ true → (entry_of (file_of s k)).flagged ≡ true) → length (text_by v (entry_of (emptied_file v (file_of s k)))) ≤ m
        at Keep q flag = absurd (false≢true q)
        at OwnPath q flag = absurd (false≢true q)
        at FromDirectory q flag =
            omega (arith, beside-short (entry_of (file_of s k)).directory (entry_of (file_of s k)).text, space-at n (λ i. entry_of (file_of s i)) k h (flag refl), work)

    second : Passed between (cleaned_store m s) (λ k. rewritten_file (verdict_in vs 0 k)) 0 (amount grown vs 0 between)
    second =
        rewritten-turned m vs 0 between first.turned.sound (omega (arith, count, same_count)) held-between bare-between short-between
        (omega (arith, needed, room, first.turned.long))

    both-passes : Turned s (cleaned_store m s) (λ k f. rewritten_file (verdict_in vs 0 k) (emptied_file (verdict_in vs 0 k) f))
    both-passes = turned_then first.turned second.turned

    pub sound-cleaned : Sound (cleaned_store m s)
    sound-cleaned = both-passes.sound

    pub view-cleaned : view_of (cleaned_store m s) ≡ cleaned_of (view_of s)
    view-cleaned =
        turned-view both-passes
        ∙ ap (λ (fs : List File). record {
          piece_length = (view_of s).piece_length;
          v2 = (view_of s).v2;
          name = (view_of s).name;
          files = fs;
          directories = (view_of s).directories;
          links = (view_of s).links;
          total = (view_of s).total;
          on_disk = (view_of s).on_disk;
          trimmed = (view_of s).trimmed;
        })
        files-cleaned
