use Rattle.promise.proofs.Once.{own_words}
use Rattle.promise.proofs.own_words_stand.Goals as goal

pub returns : goal.returns
returns c = own_words
