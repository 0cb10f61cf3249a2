use Rattle.its_model.proofs.laws.schedules.every_schedule.Goals as goal

pub returns : goal.returns
returns c = λ configs events. record {
  handed_as_sent = c.handed_as_sent.ensures configs events;
  relays_are_faithful = c.relays_are_faithful.ensures configs events;
  at_most_once = c.at_most_once.ensures configs events;
  flooding_is_bounded = c.flooding_is_bounded.ensures configs events;
  anycast_stops_inside = c.anycast_stops_inside.ensures configs events;
  frames_name_their_source = c.frames_name_their_source.ensures configs events;
  accepted_where_it_comes = c.what_comes_is_accepted.ensures configs events;
  reaches_where_delivered = c.what_is_delivered_reaches.ensures configs events;
}
