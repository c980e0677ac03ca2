-- What the definitions above say over lists, in reading order.
pub mod Lists
