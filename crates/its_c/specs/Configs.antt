-- What a new station is made of.
use Rattle.std.specs.Prelude.{◌≡◌, ◌≤◌, ℕ, pos, not, nat_eq, ◌||◌, if◌then◌else◌}
use Rattle.std.specs.Prelude.{Option, Some, None}
use Rattle.its_gnvalue.specs.Values.{Position, IsIndividual, IsLatitude, IsLongitude}
use Rattle.its_model.specs.Station.{StationModel, new_station}
use Rattle.its_model.specs.Contention.{ContentionRule}
use Rattle.its_governor.specs.declared.rate.Rate.{Rate}
use Rattle.its_governor.specs.declared.rate.Limits.{Limits}
use Rattle.its_governor.specs.Forwarding.{AreRemembered}
use Rattle.its_c.specs.Arguments.{place_of}
use Rattle.its_c.specs.declared.layout.Config.{Config}

-- the struct is of the size that the library knows, and the table's sizes are in their ranges
abbrev pub HasSizes : Config → Type 0
HasSizes c =
    (c.size ≡ 88) × (1 ≤ c.capacity) × (c.capacity ≤ 4096) × (1 ≤ c.remember) × (c.remember ≤ 64)

-- the limits are in their ranges
abbrev pub HasLimits : Config → Type 0
HasLimits c =
    (c.forward_rate ≤ 1000000) × (c.forward_burst ≤ 1000000)
    × (c.source_rate ≤ 1000000) × (c.source_burst ≤ 1000000)
    × (c.own_rate ≤ 1000000) × (c.own_burst ≤ 1000000) × (c.hop_cap ≤ 255)

-- the numbers for contention are in their ranges, which they are also without it
abbrev pub HasContention : Config → Type 0
HasContention c =
    (c.area_forwarding ≤ 1) × (1 ≤ c.contention_max) × (c.contention_max ≤ 1000)
    × (c.contention_min ≤ c.contention_max) × (1 ≤ c.contention_range)
    × (c.contention_range ≤ 65535) × (1 ≤ c.contention_copies) × (c.contention_copies ≤ 3)

-- the rule by which the station contends, or none
abbrev pub rule_of : Config → Option ContentionRule
rule_of c =
    if nat_eq c.area_forwarding 0 then None
    else Some (record {
      min_wait = c.contention_min;
      max_wait = c.contention_max;
      range = c.contention_range;
      copies = c.contention_copies;
    })

-- the new station of an address at a place, mobile or not, with a first number
abbrev pub station_at : ℕ → Position → Config → StationModel
station_at address place c = record (new_station address place c.capacity c.remember) {
  mobile = not (nat_eq c.mobile 0);
  next_number = c.number;
}

abbrev pub station_for : Config → StationModel
station_for c = station_at c.address (place_of c.latitude c.longitude) c

-- a rate of so many frames per second, and so many at once; there is no limit if one is 0
abbrev pub rate_of : ℕ → ℕ → Option Rate
rate_of per_second burst =
    if nat_eq per_second 0 || nat_eq burst 0 then None
    else Some (record { burst = burst; per_second = per_second })

-- the greatest number of hops left with which a packet is forwarded; 0 is no limit
abbrev pub cap_of : ℕ → ℕ
cap_of hops = if nat_eq hops 0 then 255 else hops

-- the limits of a config
abbrev pub limits_of : Config → Limits
limits_of c =
    record {
      forward = rate_of c.forward_rate c.forward_burst;
      source = rate_of c.source_rate c.source_burst;
      own = rate_of c.own_rate c.own_burst;
      hop_cap = cap_of c.hop_cap;
      delivers_once = not (nat_eq c.deliver_once 0);
    }

-- what a new station may be given: no source is forgotten before its bucket is full
abbrev pub IsForNew : Config → Type 0
IsForNew c =
    HasSizes c × IsIndividual c.address × IsLatitude c.latitude × IsLongitude c.longitude
    × HasLimits c × AreRemembered (limits_of c).forward (limits_of c).source × HasContention c

-- what is written for a caller to change
abbrev pub usual_config : Config
usual_config =
    record {
      size = 88;
      address = 0;
      latitude = pos 0;
      longitude = pos 0;
      capacity = 64;
      remember = 8;
      mobile = 1;
      number = 0;
      forward_rate = 100;
      forward_burst = 50;
      source_rate = 20;
      source_burst = 20;
      own_rate = 50;
      own_burst = 50;
      hop_cap = 10;
      deliver_once = 1;
      area_forwarding = 0;
      contention_max = 100;
      contention_min = 1;
      contention_range = 1000;
      contention_copies = 2;
    }
