-- Copies of a frame share its key.
use Rattle.std.proofs.Common.{◌≡◌, ◌≢◌, ℕ, Bool, true, false, ◌&&◌, List, length, drop}
use Rattle.std.proofs.Common.{take, refl}
use Rattle.std.specs.Cmp.Lexicographic.{bytes_decides}
use Rattle.std.proofs.lemmas.Bool.{eqb-true}
use Rattle.its_linkframe.specs.Copies.{is_copy, same_octets, octets_from}
use Rattle.its_contention.specs.Key.{key_of}

-- both tests hold
both : (b c : Bool) → (b && c) ≡ true → (b ≡ true) × (c ≡ true)
both true true h = (refl, refl)
both true false h = (refl, h)
both false c h = absurd (no h)
  where
    no : false ≡ true → ⊥
    no h = cc

pub share_keys : (own : ℕ) (held heard : List ℕ) → is_copy own held heard ≡ true
    → key_of held ≡ key_of heard
unfolding key_of
share_keys own held heard h =
    let all = both _ _ h in
    let fronts = both _ _ all.0 in
    let targets = both _ _ fronts.0 in
    let sizes = both _ _ targets.0 in
    let rest : same_octets (drop 17 held) (drop 17 heard) ≡ true =
    (both (same_octets (take 6 held) (take 6 heard)
    && same_octets (octets_from 12 4 held) (octets_from 12 4 heard))
    (same_octets (drop 17 held) (drop 17 heard)) all.1).1 in
    let shared : drop 17 held ≡ drop 17 heard = (bytes_decides _ _).0 rest in
    let size : length held ≡ length heard = eqb-true _ _ sizes.0 in
    rw (shared, size) refl

-- so a frame with another key is no copy
pub no_copy : (own : ℕ) (held heard : List ℕ) → key_of held ≢ key_of heard
    → is_copy own held heard ≡ false
no_copy own held heard differ = by (is_copy own held heard) refl
  where
    by : (b : Bool) → is_copy own held heard ≡ b → b ≡ false
    by false e = refl
    by true e = absurd (differ (share_keys own held heard e))
