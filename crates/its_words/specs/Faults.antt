-- Which key is at fault.
use Rattle.std.specs.Prelude.{◌≡◌}
use Rattle.its_words.specs.declared.keys.fault.KeyFault.{KeyFault}
use Rattle.its_words.specs.declared.keys.fault.KeyFault.TheVariants as key_faults
use Rattle.its_words.specs.declared.keys.key.Key.{Key}
use Rattle.its_words.specs.declared.keys.key.Key.TheVariants as keys

-- the fault is that of this key, if it is one of a key
abbrev pub IsFaultOf : Key → KeyFault → Type 0
IsFaultOf key (key_faults.Refused bad wrong) = bad ≡ key
IsFaultOf key key_faults.OutOfMemory = Unit {0}

-- the fault is that of what a station does, if it is one of a key: never that of the moment
abbrev pub IsWhatFault : KeyFault → Type 0
IsWhatFault (key_faults.Refused bad wrong) = ¬ (bad ≡ keys.At)
IsWhatFault key_faults.OutOfMemory = Unit {0}
