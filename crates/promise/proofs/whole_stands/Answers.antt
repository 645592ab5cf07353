use Rattle.promise.proofs.Once.{drawn_once, installed_once, never_twice, own_words}
use Rattle.promise.proofs.Delivery.{delivered, broadcast_once}
use Rattle.promise.proofs.Keys.{one_key}
use Rattle.promise.proofs.Way.{way_on, way_open}
use Rattle.promise.proofs.whole_stands.Goals as goal

pub returns : goal.returns
returns c = (drawn_once, installed_once, never_twice, own_words, delivered, broadcast_once, one_key, way_on, way_open)
