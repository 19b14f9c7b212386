-- Text that is added in several pieces.
use Rattle.std.proofs.Common.{◌≡◌, ◌⊎◌, ℕ, zero, suc, ◌+◌, ◌≤◌, min, List, [], ◌++◌, Option, Some, None, refl, sym, ap, subst, ◌∙◌, inl, inr, append_assoc, arith}
use Rattle.std.proofs.lemmas.List.{append-nil}
use Rattle.std.proofs.lemmas.List.Sums.{sum_by-append}
use Rattle.pe_base.specs.Calls.Counters.{last_count}
use Rattle.pe_base.specs.Calls.Told.{Told, Appends, feeds_of, line_feeds, counted, Adds, AddsPart, SinkFailed}

pub appends-nothing : (text : Option (List ℕ)) → Appends text [] text
appends-nothing None = refl
appends-nothing (Some text) = sym (ap Some (append-nil text))

pub appends-then : (a b c : Option (List ℕ)) (x y : List ℕ) → Appends a x b → Appends b y c → Appends a (x ++ y) c
appends-then None b c x y first second = subst (λ t. Appends t y c) first second
appends-then (Some a) b c x y first second =
    let rest : Appends (Some (a ++ x)) y c = subst (λ t. Appends t y c) first second in
    rest ∙ ap Some (append_assoc a x y)

-- counts, one after another
pub counted-then : (m n count : ℕ) → counted n (counted m count) ≡ counted (m + n) count
counted-then m zero count = let e : m ≡ m + 0 = omega arith in ap (λ k. counted k count) e
counted-then m (suc n) count =
    let e : suc (m + n) ≡ m + suc n = omega arith in
    ap (λ k. min (k + 1) last_count) (counted-then m n count) ∙ ap (λ k. counted k count) e

-- the pieces of one text, and so many more
writes-then : (a b c : ℕ) (x : List ℕ) (n : ℕ) → b ≡ counted (line_feeds x) a → c ≡ counted n b → c ≡ counted (line_feeds x + n) a
writes-then a b c x n first second = second ∙ ap (counted n) first ∙ counted-then (line_feeds x) n a

both-feeds : (c : ℕ) (x y : List ℕ) (extra a : ℕ) → c ≡ counted (line_feeds x + (line_feeds y + extra)) a → c ≡ counted (line_feeds (x ++ y) + extra) a
both-feeds c x y extra a is =
    let e : line_feeds x + (line_feeds y + extra) ≡ line_feeds (x ++ y) + extra = omega (arith, sum_by-append feeds_of x y) in
    is ∙ ap (λ n. counted n a) e

no-extra : (c n a : ℕ) → c ≡ counted (n + 0) a → c ≡ counted n a
no-extra c n a is = let e : n + 0 ≡ n = omega arith in is ∙ ap (λ k. counted k a) e

an-extra : (c n a : ℕ) → c ≡ counted n a → c ≡ counted (n + 0) a
an-extra c n a is = let e : n ≡ n + 0 = omega arith in is ∙ ap (λ k. counted k a) e

-- the pieces of two texts
pub writes-both : (a b c : ℕ) (x y : List ℕ) → b ≡ counted (line_feeds x) a → c ≡ counted (line_feeds y) b → c ≡ counted (line_feeds (x ++ y)) a
writes-both a b c x y first second =
    no-extra c (line_feeds (x ++ y)) a
    (both-feeds c x y 0 a (writes-then a b c x (line_feeds y + 0) first (an-extra c (line_feeds y) b second)))

-- nothing
pub adds-nothing : (told : Told) → Adds told [] told
adds-nothing told = record { text = appends-nothing told.text; writes = refl; faults = omega arith }

-- one piece and then another
pub adds-then : (a b c : Told) (x y : List ℕ) → Adds a x b → Adds b y c → Adds a (x ++ y) c
adds-then a b c x y first second = record {
  text = appends-then a.text b.text c.text x y first.text second.text;
  writes = writes-both a.writes b.writes c.writes x y first.writes second.writes;
  faults = omega (arith, first.faults, second.faults);
}

-- all of what was to be written, and more to come
pub part-added : (a b : Told) (x rest whole : List ℕ) → whole ≡ x ++ rest → Adds a x b → AddsPart a whole b
part-added a b x rest whole is added = record { part = x; rest = rest; whole = is; text = added.text; writes = inl added.writes; faults = added.faults }

-- a piece of which nothing was written
pub part-nothing : (told : Told) (x : List ℕ) → AddsPart told x told
part-nothing told x = part-added told told [] x x refl (adds-nothing told)

-- the whole of the first piece, and nothing of the other
pub part-whole : (a b : Told) (x y : List ℕ) → Adds a x b → AddsPart a (x ++ y) b
part-whole a b x y first = part-added a b x y (x ++ y) refl first

-- the whole of a piece
pub part-all : (a b : Told) (x : List ℕ) → Adds a x b → AddsPart a x b
part-all a b x added = part-added a b x [] x (sym (append-nil x)) added

-- a part of the first piece
pub part-first : (a b : Told) (x y : List ℕ) → AddsPart a x b → AddsPart a (x ++ y) b
part-first a b x y first = record {
  part = first.part;
  rest = first.rest ++ y;
  whole = ap (λ z. z ++ y) first.whole ∙ append_assoc first.part first.rest y;
  text = first.text;
  writes = first.writes;
  faults = first.faults;
}

-- one piece and a part of another
pub part-then : (a b c : Told) (x y : List ℕ) → Adds a x b → AddsPart b y c → AddsPart a (x ++ y) c
part-then a b c x y first second = record {
  part = x ++ second.part;
  rest = second.rest;
  whole = ap (λ z. x ++ z) second.whole ∙ sym (append_assoc x second.part second.rest);
  text = appends-then a.text b.text c.text x second.part first.text second.text;
  writes = elim second.writes [
    | inl all ↦ inl (writes-both a.writes b.writes c.writes x second.part first.writes all)
    | inr more ↦ inr (both-feeds c.writes x second.part 1 a.writes (writes-then a.writes b.writes c.writes x (line_feeds second.part + 1) first.writes more))
  ];
  faults = omega (arith, first.faults, second.faults);
}

-- a sink that fails after a piece was written has failed
pub fails-then : (a b c : Told) (x : List ℕ) → Adds a x b → SinkFailed b c → SinkFailed a c
fails-then a b c x first failed = elim failed [ inl risen ↦ inl (omega (arith, first.faults, risen)) | inr last ↦ inr last ]
