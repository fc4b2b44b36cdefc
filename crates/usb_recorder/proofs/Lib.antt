mod KeptPlaces
