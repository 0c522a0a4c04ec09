-- Why persistence over a history of equal frames gives a picture that stands still (Still.antt). The mix of a channel
-- c that is the same in every frame is a sum of products of c with weights that sum to 1, each step rounded. Values
-- are counted in units so small that each is a whole count (num's Units), and it is shown that all roundings together
-- move the mix by less than one channel: so it is cut to c, or to one below. Words: a mix of equal words, by
-- channels. Counts: how far it moves. Places: a history all of whose places hold the frame. Pictures: the claim, of
-- whole frames.
pub mod Words
pub mod Counts
pub mod Places
pub mod Pictures
