-- Texts written one behind another, and the octets of parts.
use Rattle.std.proofs.Common.{◌≡◌, ℕ, ◌+◌, ◌<◌, List, [], ◌∷◌, ◌++◌, length, take, drop, get_or}
use Rattle.std.proofs.Common.{Option, Bor, refl, sym, ap, ◌∙◌, append_assoc}
use Rattle.std.proofs.KnownBytes.{Appends-trans}
use Rattle.std.proofs.lemmas.List.{take_more, map-append, append-nil, take-append-drop}
use Rattle.std.proofs.lemmas.List.Folds.{concat-append}
use Rattle.std.specs.Io.KnownBytes.{Appends}
use Rattle.its_linkframe.specs.Devices.{AppendsPrefix}
use Rattle.cap_pcap.specs.Writing.{joined}

pub AppendsPrefix-behind : (a b c : Option (List ℕ)) (p q : List ℕ) → Appends a b p
    → AppendsPrefix b c q → AppendsPrefix a c (p ++ q)
AppendsPrefix-behind a b c p q put part = record {
  taken = p ++ part.taken;
  rest = part.rest;
  parts = ap (λ (t : List ℕ). p ++ t) part.parts ∙ sym (append_assoc p part.taken part.rest);
  missing = part.missing;
  appends = Appends-trans a b c _ _ put part.appends;
}

pub joined-append : (ps qs : List (Bor (List ℕ))) → joined (ps ++ qs) ≡ joined ps ++ joined qs
joined-append ps qs = rw (map-append, concat-append) refl

-- those up to a part, and it
pub joined-more : (ps : List (Bor (List ℕ))) (i : ℕ) (d : Bor (List ℕ)) → i < length ps
    → joined (take (i + 1) ps) ≡ joined (take i ps) ++ (get_or ps i d).now
joined-more ps i d lt =
    rw (take_more ps i d lt, joined-append (take i ps) (get_or ps i d ∷ []))
    (ap (λ (t : List ℕ). joined (take i ps) ++ t) (append-nil (get_or ps i d).now))

-- those up to a part, it, and the others
pub joined-parts : (ps : List (Bor (List ℕ))) (i : ℕ) (d : Bor (List ℕ)) → i < length ps
    → (joined (take i ps) ++ (get_or ps i d).now) ++ joined (drop (i + 1) ps) ≡ joined ps
joined-parts ps i d lt =
    ap (λ (t : List ℕ). t ++ joined (drop (i + 1) ps)) (sym (joined-more ps i d lt))
    ∙ sym (joined-append (take (i + 1) ps) (drop (i + 1) ps))
    ∙ ap joined (take-append-drop (i + 1) ps)
