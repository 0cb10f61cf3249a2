-- The words of the keys of a scenario, and the ranges of their numbers.
use Rattle.std.specs.Prelude.{ℕ, ℤ, pos, negsuc, ◌≤ℤ◌, Bool, List, codes, nat_eq}
use Rattle.std.specs.Cmp.Lexicographic.{pointwise}
use Rattle.its_words.specs.declared.keys.key.Key.{Key}
use Rattle.its_words.specs.declared.keys.key.Key.TheVariants as keys

-- the word of a key in the document
abbrev pub word_of : Key → List ℕ
word_of keys.Address = codes "address"
word_of keys.Lat = codes "lat"
word_of keys.Lon = codes "lon"
word_of keys.Capacity = codes "capacity"
word_of keys.Remember = codes "remember"
word_of keys.Absent = codes "absent"
word_of keys.Station = codes "station"
word_of keys.Id = codes "id"
word_of keys.At = codes "at"
word_of keys.Do = codes "do"
word_of keys.Pai = codes "pai"
word_of keys.Speed = codes "speed"
word_of keys.Heading = codes "heading"
word_of keys.Port = codes "port"
word_of keys.Jitter = codes "jitter"
word_of keys.Info = codes "info"
word_of keys.Tc = codes "tc"
word_of keys.Payload = codes "payload"
word_of keys.Lt = codes "lt"
word_of keys.Hops = codes "hops"
word_of keys.Shape = codes "shape"
word_of keys.Alat = codes "alat"
word_of keys.Alon = codes "alon"
word_of keys.A = codes "a"
word_of keys.B = codes "b"
word_of keys.Angle = codes "angle"
word_of keys.Number = codes "number"
word_of keys.Frame = codes "frame"
word_of keys.Range = codes "range"
word_of keys.Delay = codes "delay"
word_of keys.Loss = codes "loss"
word_of keys.Seed = codes "seed"
word_of keys.Beacons = codes "beacons"
word_of keys.Until = codes "until"
word_of keys.Contention = codes "contention"
word_of keys.ContentionMax = codes "contention_max"
word_of keys.ContentionMin = codes "contention_min"
word_of keys.ContentionRange = codes "contention_range"
word_of keys.ContentionCopies = codes "contention_copies"
word_of keys.Period = codes "period"
word_of keys.Octets = codes "octets"
word_of keys.Send = codes "send"
word_of keys.Reached = codes "reached"
word_of keys.Within = codes "within"
word_of keys.Begin = codes "begin"
word_of keys.Gone = codes "gone"
word_of keys.Mid = codes "mid"
word_of keys.Ports = codes "ports"
word_of keys.Event = codes "event"
word_of keys.Air = codes "air"
word_of keys.Every = codes "every"
word_of keys.Moves = codes "moves"
word_of keys.Expect = codes "expect"

-- the least number that a key takes
abbrev pub least_of : Key → ℤ
least_of keys.Lat = negsuc 899999999
least_of keys.Lon = negsuc 1799999999
least_of keys.Alat = negsuc 899999999
least_of keys.Alon = negsuc 1799999999
least_of keys.Speed = negsuc 16383
least_of keys.Capacity = pos 1
least_of keys.Remember = pos 1
least_of keys.A = pos 1
least_of keys.B = pos 1
least_of keys.Range = pos 1
least_of keys.Period = pos 1
least_of keys.Gone = pos 1
least_of keys.ContentionMax = pos 1
least_of keys.ContentionRange = pos 1
least_of keys.ContentionCopies = pos 1
least_of key = pos 0

-- the greatest number that a key takes; 0 where its value is no number
abbrev pub most_of : Key → ℤ
most_of keys.Address = pos 0
most_of keys.Lat = pos 900000000
most_of keys.Lon = pos 1800000000
most_of keys.Capacity = pos 4096
most_of keys.Remember = pos 64
most_of keys.At = pos 9223372036854775807
most_of keys.Do = pos 0
most_of keys.Pai = pos 0
most_of keys.Speed = pos 16383
most_of keys.Tc = pos 255
most_of keys.Payload = pos 0
most_of keys.Lt = pos 255
most_of keys.Hops = pos 255
most_of keys.Shape = pos 0
most_of keys.Alat = pos 900000000
most_of keys.Alon = pos 1800000000
most_of keys.Angle = pos 359
most_of keys.Frame = pos 4294967295
most_of keys.Loss = pos 100
most_of keys.Seed = pos 9223372036854775807
most_of keys.Beacons = pos 0
most_of keys.Until = pos 4611686018427387904
most_of keys.Period = pos 4294967295
most_of keys.Octets = pos 1394
most_of keys.Send = pos 4294967295
most_of keys.Within = pos 4611686018427387904
most_of keys.Begin = pos 4611686018427387904
most_of keys.Gone = pos 4294967295
most_of keys.Mid = pos 0
most_of keys.Ports = pos 0
most_of keys.Absent = pos 0
most_of keys.Id = pos 0
most_of keys.Event = pos 0
most_of keys.Air = pos 0
most_of keys.Every = pos 0
most_of keys.Moves = pos 0
most_of keys.Expect = pos 0
most_of keys.Contention = pos 0
most_of keys.ContentionMax = pos 1000
most_of keys.ContentionMin = pos 1000
most_of keys.ContentionCopies = pos 3
most_of key = pos 65535

-- the number is one that the key takes
abbrev pub IsTakenBy : Key → ℤ → Type 0
IsTakenBy key number = (least_of key ≤ℤ number) × (number ≤ℤ most_of key)

-- whether the word is that of the key
abbrev pub is_word : Key → List ℕ → Bool
is_word key word = pointwise nat_eq word (word_of key)
