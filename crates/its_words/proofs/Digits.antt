-- Hexadecimal digits that are read into room for so many octets.
use Rattle.std.proofs.Common.{◌≡◌, ℕ, List, Result, Ok, Err, refl}
use Rattle.std.specs.Prelude.{MatchResult}
use Rattle.hex.proofs.HexLemmas.{decode_sized-ok, decode_sized-twice}
use Rattle.hex.specs.Hex.{decode_of, decode_sized}
use Rattle.hex.specs.declared.error.FromHexError.{FromHexError}

-- what is read into room is what the digits say
octets_by : (digits : List ℕ) (n : ℕ) (sized : Result (List ℕ) FromHexError)
    → decode_sized digits n ≡ sized → (result : Result (Unit {0}) FromHexError)
    → (octets : List ℕ)
    → MatchResult sized (λ bytes. (result ≡ Ok tt) × (octets ≡ bytes)) (λ e. result ≡ Err e)
    → result ≡ Ok tt → decode_of digits ≡ Ok octets
octets_by digits n (Ok bytes) is result octets says ok =
    let long = decode_sized-ok digits n bytes is in
    let same = decode_sized-twice digits n long in
    cc (says.1)
octets_by digits n (Err e) is result octets says ok = absurd (cc)

-- the same
pub octets_of : (digits octets : List ℕ) (n : ℕ) (result : Result (Unit {0}) FromHexError)
    → MatchResult (decode_sized digits n) (λ bytes. (result ≡ Ok tt) × (octets ≡ bytes))
    (λ e. result ≡ Err e)
    → result ≡ Ok tt → decode_of digits ≡ Ok octets
octets_of digits octets n result says ok =
    octets_by digits n (decode_sized digits n) refl result octets says ok
